-- The tests by which words are read, and what they decide.
use Rattle.std.proofs.Common.{◌≡◌, ℕ, ◌+◌, ◌-◌, ◌^◌, ◌<◌, ◌≤◌, Bool, true, ◌==◌, List, length, slice_index, take, drop, get_or, All, Some, refl, sym, ◌∙◌, subst, arith, inl, inr}
use Rattle.std.proofs.lemmas.Grind.{common_steps}
use Rattle.std.proofs.lemmas.Bool.{cases_lt, cases_Bool}
use Rattle.std.proofs.lemmas.Bool.Decides.{nat_tests, Decides-by_and, Decides-eqb, Decides-like}
use Rattle.std.proofs.lemmas.List.Elements.{All-from_get_or, All-get_or}
use Rattle.std.specs.Bool.{Decides}
use Rattle.std.specs.List.{list_all}
use Rattle.ow_base.specs.Seals.{AreWords, IsSealed}
use Rattle.ow_base.proofs.Deciding as word_tests
use Rattle.record_layouts.specs.Spelling.{AreZero, IsStatus, are_below, are_zero, is_sealed_record, is_status, lies_between, only_where}

pub decides_below : (bound : ℕ) (words : List ℕ) → Decides (are_below bound words) (All (λ word. word < bound) words)
unfolding are_below
decides_below bound words = word_tests.decides_below bound words

pub decides_words : (words : List ℕ) → Decides (are_below (2 ^ 32) words) (AreWords words)
unfolding are_below
decides_words words = word_tests.decides_words words

part_at : (words : List ℕ) (first end k : ℕ) → k < end - first → get_or (take (end - first) (drop first words)) k 0
    ≡ get_or words (first + k) 0
part_at words first end k less = grind (arith, common_steps)

zero_at : (words : List ℕ) (first end : ℕ) → All (λ word. word ≡ 0) (take (end - first) (drop first words))
    → AreZero words first end
zero_at words first end all k from to =
    let place : first + (k - first) ≡ k = omega arith in
    let here : get_or (take (end - first) (drop first words)) (k - first) 0 ≡ get_or words k 0 = rw place at
    (part_at words first end (k - first) (omega arith)) in
    elim (cases_lt (k - first) (length (take (end - first) (drop first words)))) [
      | inl within ↦ sym here ∙ All-get_or (λ word. word ≡ 0) (take (end - first) (drop first words))
          (k - first) 0 within all
      | inr behind ↦ sym here ∙ grind (arith, common_steps)
    ]

zero_in : (words : List ℕ) (first end : ℕ) → AreZero words first end → All (λ word. word ≡ 0)
    (take (end - first) (drop first words))
zero_in words first end zero =
    All-from_get_or (λ word. word ≡ 0) (take (end - first) (drop first words)) 0
    (λ k within. let less : k < end - first = grind (arith, common_steps) in part_at words first end k less
    ∙ zero (first + k) (omega arith) (omega arith))

pub decides_zero : (words : List ℕ) (first end : ℕ) → Decides (are_zero words first end) (AreZero words first end)
unfolding are_zero
decides_zero words first end =
    Decides-like (are_zero words first end) (zero_at words first end) (zero_in words first end)
    (Decides-by_and (λ word. word == 0) (λ word. word ≡ 0) (list_all (λ word. word == 0))
    (λ word. Decides-eqb word 0) refl (λ _ _. refl) (take (end - first) (drop first words)))

pub decides_between : (first last n : ℕ) → Decides (lies_between first last n) ((first ≤ n) × (n ≤ last))
decides_between first last n = grind (arith, nat_tests)

pub decides_status : (word : ℕ) → Decides (is_status word) (IsStatus word)
unfolding is_status
decides_status word = grind (arith, nat_tests)

-- so many words of 32 bits, the first of which is this one, with their seal
pub record IsSealedRecord (count first : ℕ) (words : List ℕ) : Type 0 where
  pub long : length words ≡ count
  pub all_words : AreWords words
  pub kind : slice_index words 0 ≡ first
  pub seal : IsSealed words

pub decides_sealed_record : (count first : ℕ) (words : List ℕ) → Decides (is_sealed_record count first words)
    (IsSealedRecord count first words)
unfolding is_sealed_record
decides_sealed_record count first words =
    let are = decides_words words in (
      λ yes. record {
        long = grind (arith, nat_tests);
        all_words = grind (arith, nat_tests, are.0);
        kind = grind
            (arith, nat_tests);
        seal = grind (arith, nat_tests);
      },
      λ is. grind (arith, nat_tests, are.1 is.all_words, is.long, is.kind, is.seal),
    )

-- a value that counts where a test says so is read, and it alone
module _ {A : Type 0} (P : A → Type 0) (test : Bool) (value : A) (decides : Decides test (P value)) where
  pub reads_one : (a : A) → a ≡ value → P a → only_where test value ≡ Some a
  reads_one a same is =
      let yes : test ≡ true = decides.1 (subst P same is) in
      rw (yes, same) refl

  pub one_read : (a : A) → only_where test value ≡ Some a → P a
  one_read a e = elim (cases_Bool test) [
    | inl holds ↦ (let same : value ≡ a = (let e2 = rw holds at e in cc) in subst P same (decides.0 holds))
    | inr fails ↦ (let e2 = rw fails at e in cc)
  ]
