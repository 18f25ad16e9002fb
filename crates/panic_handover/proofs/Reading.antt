-- What words are read as is the hand-over that they spell.
use Rattle.std.proofs.Common.{◌≡◌, ℕ, zero, suc, ◌-◌, ◌^◌, ◌<◌, ◌≤◌, true, nat_lt, nat_le, ◌||◌, List, length, slice_index, take, drop, replicate, All, Option, Some, None, refl, sym, ◌∙◌, subst, ap, arith, inl, inr}
use Rattle.std.proofs.lemmas.Grind.{common_steps}
use Rattle.std.proofs.lemmas.Bool.{cases_lt, cases_Bool}
use Rattle.std.proofs.lemmas.Bool.Decides.{nat_tests, Decides-and, Decides-by_and, Decides-eqb, Decides-like, Decides-ltb}
use Rattle.std.proofs.lemmas.List.Elements.{All-from_get_or, All-get_or}
use Rattle.std.specs.Bool.{Decides}
use Rattle.std.specs.List.{list_all}
use Rattle.ow_base.specs.Seals.{AreWords, seal_of}
use Rattle.ow_base.proofs.Deciding.{decides_words, reads_none}
use Rattle.ow_base.specs.declared.machine.Bank.{Bank}
use Rattle.ow_base.specs.declared.machine.Came.{Came}
use Rattle.ow_base.specs.declared.machine.Came.TheVariants.{Kernel, User, Call, Closing}
use Rattle.panic_handover.specs.declared.hand_over.HandOver.{HandOver}
use Rattle.panic_handover.specs.HandOver.{came_word, came_by, zero_bank, is_zero_bank, may_tell_registers, FitsHandOver, fits_hand_over, IsHandOver, hand_over_fields, are_hand_over, hand_over_in}
use lib.Pointwise.{bytes_decides}

-- each way to come has one word
came_back : (came : Came) → came_by (came_word came) ≡ came
came_back Kernel = refl
came_back User = refl
came_back Call = refl
came_back Closing = refl

came_below : (came : Came) → came_word came < 4
came_below Kernel = omega arith
came_below User = omega arith
came_below Call = omega arith
came_below Closing = omega arith

came_there : (word : ℕ) → word < 4 → word ≡ came_word (came_by word)
came_there zero small = refl
came_there (suc zero) small = refl
came_there (suc (suc zero)) small = refl
came_there (suc (suc (suc zero))) small = refl
came_there (suc (suc (suc (suc n)))) small = absurd (omega arith)

-- the value is what the words say, field by field
one_value : (words : List ℕ) (h : HandOver) → IsHandOver words h → h ≡ hand_over_fields words
one_value words h is =
    let came : h.came ≡ came_by (slice_index words 3) = sym (came_back h.came) ∙ ap came_by (sym is.came) in
    grind (arith, is.trap, is.pid, is.pc, is.regs, came)

decides_zero : (bank : Bank) → Decides (is_zero_bank bank) (bank ≡ zero_bank)
unfolding is_zero_bank
decides_zero bank =
    Decides-like _ (λ is. grind (arith, is.0, is.1)) (λ same. (ap (λ (b : Bank). b.pc) same, ap (λ (b : Bank). b.regs) same))
    (Decides-and _ _ (Decides-eqb bank.pc 0) (bytes_decides bank.regs (replicate 31 0)))

-- registers are told only where a program had been running
decides_registers : (came : Came) (pid : ℕ) (bank : Bank) → Decides (may_tell_registers came pid || is_zero_bank bank)
    ((came ≡ Kernel → bank ≡ zero_bank) × (came ≡ Closing → pid ≡ 0 → bank ≡ zero_bank))
decides_registers Kernel pid bank =
    let zero = decides_zero bank in (λ yes. (λ _. zero.0 yes, λ other. absurd cc), λ is. zero.1 (is.0 refl))
decides_registers User pid bank = (λ _. (λ other. absurd cc, λ other. absurd cc), λ _. refl)
decides_registers Call pid bank = (λ _. (λ other. absurd cc, λ other. absurd cc), λ _. refl)
decides_registers Closing pid bank = let zero = decides_zero bank in grind (arith, nat_tests, zero.0, zero.1)

decides_fits : (h : HandOver) → Decides (fits_hand_over h) (FitsHandOver h)
unfolding fits_hand_over
decides_fits h =
    let pid : Decides (nat_le h.pid 256) (h.pid ≤ 256) = grind (arith, nat_tests) in
    Decides-like _ (λ is. record { pid = is.0; kernel = is.1.0; closing = is.1.1 }) (λ is. (is.pid, (is.kernel, is.closing)))
    (Decides-and _ _ pid (decides_registers h.came h.pid h.bank))

-- the test tells whether words spell the value of their fields
decides : (words : List ℕ) → Decides (are_hand_over words) (IsHandOver words (hand_over_fields words))
unfolding are_hand_over
decides words =
    let came : Decides (nat_le (slice_index words 3) 3) (slice_index words 3 ≤ 3) = grind (arith, nat_tests) in
    Decides-like _
    (λ is. record {
      long = is.0.0.0.0.0.0;
      all_words = is.0.0.0.0.0.1;
      kind = is.0.0.0.0.1;
      trap = refl;
      pid = refl;
      came = came_there (slice_index words 3) (omega (arith, is.0.0.0.1));
      pc = refl;
      regs = refl;
      unused = is.0.0.1;
      fits = is.1;
      seal = is.0.1;
    })
    (λ is. (
      (((((is.long, is.all_words), is.kind), omega (arith, is.came, came_below (came_by (slice_index words 3)))), is.unused), is.seal),
      is.fits,
    ))
    (Decides-and _ _ (Decides-and _ _
    (Decides-and _ _ (Decides-and _ _
    (Decides-and _ _ (Decides-and _ _ (Decides-eqb (length words) 40) (decides_words words))
    (Decides-eqb (slice_index words 0) 0x48414e44)) came) (bytes_decides (take 3 (drop 36 words)) (replicate 3 0)))
    (Decides-eqb (slice_index words (length words - 1)) (seal_of words))) (decides_fits (hand_over_fields words)))

-- so what is read is what is spelled
pub hand_over_read : (words : List ℕ) (h : HandOver) → IsHandOver words h → hand_over_in words ≡ Some h
unfolding hand_over_in
hand_over_read words h is =
    let same = one_value words h is in
    let yes : are_hand_over words ≡ true = (decides words).1 (subst (IsHandOver words) same is) in
    rw (yes, same) refl

pub hand_over_is : (words : List ℕ) (h : HandOver) → hand_over_in words ≡ Some h → IsHandOver words h
unfolding hand_over_in
hand_over_is words h e = elim (cases_Bool (are_hand_over words)) [
  | inl holds ↦ (let same : hand_over_fields words ≡ h = (let e2 = rw holds at e in cc) in subst (IsHandOver words) same ((decides words).0 holds))
  | inr fails ↦ (let e2 = rw fails at e in cc)
]

-- where no hand-over is spelled none is read
pub none_read : (words : List ℕ) → ((h : HandOver) → IsHandOver words h → ⊥) → None ≡ hand_over_in words
none_read words none = reads_none (IsHandOver words) (hand_over_in words) (hand_over_is words) none
