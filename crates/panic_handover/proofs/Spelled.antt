-- The one spelling of a hand-over.
use Rattle.std.proofs.Common.{◌≡◌, ℕ, ◌∙◌, sym, ap, subst, refl, arith, List, [], ◌∷◌, ◌++◌, append_assoc, length, length-append, take, drop, get_or}
use Rattle.std.proofs.lemmas.List.{take_at, drop_at}
use Rattle.ow_base.specs.Seals.{AreWords, IsSealed, seal_from, sealed}
use Rattle.panic_handover.specs.declared.hand_over.HandOver.{HandOver}
use Rattle.panic_handover.specs.HandOver.{came_word, FitsHandOver, IsHandOver}
use Rattle.panic_handover.proofs.Sealed.{parts, seal_last, seal_put, seal_stands}

-- the words between the kind word and the seal, and all words
abbrev pub body : HandOver → List ℕ
body h = h.trap ∷ h.pid ∷ came_word h.came ∷ h.bank.pc ∷ (h.bank.regs ++ (0 ∷ 0 ∷ 0 ∷ []))

abbrev pub spelled : HandOver → List ℕ
spelled h = 0x48414e44 ∷ (body h ++ seal_from 0x48414e44 (body h) ∷ [])

pieces : (words : List ℕ) → length words ≡ 40
    → words ≡ get_or words 0 0 ∷ get_or words 1 0 ∷ get_or words 2 0 ∷ get_or words 3 0 ∷ get_or words 4 0
    ∷ ((take 31 (drop 5 words) ++ take 3 (drop 36 words)) ++ get_or words 39 0 ∷ [])
pieces (a ∷ b ∷ c ∷ d ∷ e ∷ rest) long = ap (λ ws. a ∷ b ∷ c ∷ d ∷ e ∷ ws) (parts rest 31 3 (omega arith))
pieces (a ∷ b ∷ c ∷ d ∷ []) long = absurd (omega arith)
pieces (a ∷ b ∷ c ∷ []) long = absurd (omega arith)
pieces (a ∷ b ∷ []) long = absurd (omega arith)
pieces (a ∷ []) long = absurd (omega arith)
pieces [] long = absurd (omega arith)

-- words that spell a hand-over are its spelling
pub are_spelled : (words : List ℕ) (h : HandOver) → IsHandOver words h → words ≡ spelled h
are_spelled words h is =
    let last = get_or words 39 0 in
    let front : words ≡ 0x48414e44 ∷ (body h ++ last ∷ []) =
    pieces words is.long ∙ rw (is.kind, is.trap, is.pid, is.came, is.pc, is.regs, is.unused) refl in
    front ∙ ap (λ s. 0x48414e44 ∷ (body h ++ s ∷ [])) (seal_last 0x48414e44 (body h) last (subst IsSealed front is.seal))

-- and words that are put and sealed spell it
pub written : (words : List ℕ) (h : HandOver) → length h.bank.regs ≡ 31 → FitsHandOver h → AreWords words
    → words ≡ sealed (0x48414e44 ∷ h.trap ∷ h.pid ∷ came_word h.came ∷ h.bank.pc ∷ (h.bank.regs ++ (0 ∷ 0 ∷ 0 ∷ 0 ∷ [])))
    → IsHandOver words h
written words h full fits are put =
    let seal = seal_from 0x48414e44 (body h) in
    let laid = λ (last : ℕ). append_assoc h.bank.regs (0 ∷ 0 ∷ 0 ∷ []) (last ∷ []) in
    let before = λ (rest : List ℕ). 0x48414e44 ∷ h.trap ∷ h.pid ∷ came_word h.came ∷ h.bank.pc ∷ rest in
    let all : words ≡ spelled h = put ∙ ap (λ rest. sealed (before rest)) (sym (laid 0)) ∙ seal_put 0x48414e44 (body h) 0 in
    let in_parts : words ≡ before (h.bank.regs ++ (0 ∷ 0 ∷ 0 ∷ seal ∷ [])) = all ∙ ap before (laid seal) in
    record {
      long = rw in_parts (omega (arith, length-append h.bank.regs (0 ∷ 0 ∷ 0 ∷ seal ∷ [])));
      all_words = are;
      kind = rw in_parts refl;
      trap = rw in_parts refl;
      pid = rw in_parts refl;
      came = rw in_parts refl;
      pc = rw in_parts refl;
      regs = rw in_parts (take_at h.bank.regs (0 ∷ 0 ∷ 0 ∷ seal ∷ []) 31 full);
      unused = rw in_parts (ap (take 3) (drop_at h.bank.regs (0 ∷ 0 ∷ 0 ∷ seal ∷ []) 31 full));
      fits = fits;
      seal = subst IsSealed (sym all) (seal_stands 0x48414e44 (body h));
    }
