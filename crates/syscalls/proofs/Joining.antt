-- A process joins others with the descriptors of one of them: no other description is in use.
use Rattle.std.proofs.Common.{◌≡◌, ◌||◌, ℕ, zero, suc, ◌+◌, ◌<◌, ◌≤◌, Bool, true, false, Option, Some, None, inl, inr, refl, sym, ap, subst, ◌∙◌, arith}
use Rattle.std.proofs.lemmas.Bool.{cases_Bool}
use Rattle.ow_base.specs.Words.{updated}
use Rattle.record_layouts.specs.Unix.State.{Process, Description, in_use, is_among, is_named, is_named_by}
use Rattle.process_table.proofs.Kept.{same_or_not, set_here, set_other}

-- what one process names is named
named_there : (ps : ℕ → Option Process) (number first count end pid : ℕ) → end ≡ first + count → first ≤ pid → pid < end → is_named_by number (ps pid) ≡ true
    → is_named ps number first count ≡ true
unfolding is_named
named_there ps number first zero end pid sum from to names = absurd (omega (arith, sum, from, to))
named_there ps number first (suc count) end pid sum from to names = elim (cases_Bool (is_named_by number (ps first))) [
  | inl here ↦ rw here refl
  | inr fails ↦
      let apart : first ≡ pid → ⊥ = λ same.
      let none : is_named_by number (ps pid) ≡ false = subst (λ (k : ℕ). is_named_by number (ps k) ≡ false) same fails in cc in
      let later : first + 1 ≤ pid = omega (arith, from, apart) in
      rw fails (named_there ps number (first + 1) count end pid (omega (arith, sum)) later to names)
]

-- where each process names it or not as before, it is named or not as before
named_alike : (ps now : ℕ → Option Process) (number first count : ℕ) → ((pid : ℕ) → is_named_by number (now pid) ≡ is_named_by number (ps pid))
    → is_named now number first count ≡ is_named ps number first count
unfolding is_named
named_alike ps now number first zero alike = refl
named_alike ps now number first (suc count) alike =
    ap (λ (b : Bool). b || is_named now number (first + 1) count) (alike first)
    ∙ ap (λ (b : Bool). is_named_by number (ps first) || b) (named_alike ps now number (first + 1) count alike)

module _ (ps : ℕ → Option Process) (pid new : ℕ) (old joined : Process) (there : ps pid ≡ Some old) (free : ps new ≡ None) (from : 1 ≤ pid) (to : pid ≤ 256)
    (same : joined.descriptors ≡ old.descriptors) where
  abbrev now : ℕ → Option Process
  now = updated ps new (Some joined)

  apart : pid ≡ new → ⊥
  apart equal =
      let none : ps pid ≡ None = ap ps equal ∙ free in
      let both : Some old ≡ None = sym there ∙ none in
      cc

  names_old : (number : ℕ) → is_named_by number (ps pid) ≡ is_among number old.descriptors
  names_old number = ap (is_named_by number) there

  names_now : (number : ℕ) → is_named_by number (now pid) ≡ is_among number old.descriptors
  names_now number = ap (is_named_by number) (set_other ps new (Some joined) pid apart) ∙ names_old number

  none_more : (number : ℕ) → is_among number old.descriptors ≡ false → (k : ℕ) → is_named_by number (now k) ≡ is_named_by number (ps k)
  none_more number none k = elim (same_or_not k new) [
    | inl here ↦
        let added : is_named_by number (now new) ≡ false = ap (is_named_by number) (set_here ps new (Some joined)) ∙ (ap (is_among number) same ∙ none) in
        let before : is_named_by number (ps new) ≡ false = ap (is_named_by number) free in
        subst (λ (j : ℕ). is_named_by number (now j) ≡ is_named_by number (ps j)) (sym here) (added ∙ sym before)
    | inr elsewhere ↦ ap (is_named_by number) (set_other ps new (Some joined) k elsewhere)
  ]

  named_still : (number : ℕ) → is_named now number 1 256 ≡ is_named ps number 1 256
  named_still number = elim (cases_Bool (is_among number old.descriptors)) [
    | inl names ↦
        named_there now number 1 256 257 pid refl from (omega (arith, to)) (names_now number ∙ names)
        ∙ sym (named_there ps number 1 256 257 pid refl from (omega (arith, to)) (names_old number ∙ names))
    | inr none ↦ named_alike ps now number 1 256 (none_more number none)
  ]

  -- the descriptions that are in use
  pub in_use_joined : (ds : ℕ → Option Description) (number : ℕ) → in_use (updated ps new (Some joined)) ds number ≡ in_use ps ds number
  unfolding in_use
  in_use_joined ds number = rw (named_still number) refl
