-- The least number that passes a test, and whether there is one.
use Rattle.std.proofs.Common.{◌≡◌, ℕ, zero, suc, ◌+◌, ◌<◌, ◌≤◌, Bool, true, false, Option, Some, None, IfSome, IfNone, inl, inr, refl, sym, ap, arith}
use Rattle.std.proofs.lemmas.Bool.{cases_Bool}
use Rattle.record_layouts.specs.Unix.Choice.{least_from, is_any}
use Rattle.record_layouts.specs.Least.{IsLeast, NonePasses}

behind : (test : ℕ → Bool) (first end : ℕ) → NonePasses test first end → NonePasses test (first + 1) end
behind test first end none = record { none = λ k from to. none.none k (omega arith) to }

pub least_none : (test : ℕ → Bool) (first count end : ℕ) → end ≡ first + count → NonePasses test first end → least_from test first count ≡ None
unfolding least_from
least_none test first zero end sum none = refl
least_none test first (suc count) end sum none =
    let here : test first ≡ false = none.none first (omega arith) (omega arith) in
    rw here (least_none test (first + 1) count end (omega arith) (behind test first end none))

pub least_found : (test : ℕ → Bool) (first count end n : ℕ) → end ≡ first + count → IsLeast test first end n → least_from test first count ≡ Some n
unfolding least_from
least_found test first zero end n sum is = absurd (omega (arith, is.from, is.to))
least_found test first (suc count) end n sum is = elim (cases_Bool (test first)) [
  | inl passes ↦ let same : first ≡ n = grind (arith, is.below.none, is.from) in rw passes (ap Some same)
  | inr fails ↦
      let later : first + 1 ≤ n = grind (arith, is.from, is.passes) in
      let next : IsLeast test (first + 1) end n = record { from = later; to = is.to; passes = is.passes; below = behind test first n is.below } in
      rw fails (least_found test (first + 1) count end n (omega arith) next)
]

pub any_none : (test : ℕ → Bool) (first count end : ℕ) → end ≡ first + count → NonePasses test first end → is_any test first count ≡ false
unfolding is_any
any_none test first zero end sum none = refl
any_none test first (suc count) end sum none =
    let here : test first ≡ false = none.none first (omega arith) (omega arith) in
    rw here (any_none test (first + 1) count end (omega arith) (behind test first end none))

pub any_found : (test : ℕ → Bool) (first count end n : ℕ) → end ≡ first + count → first ≤ n → n < end → test n ≡ true → is_any test first count ≡ true
unfolding is_any
any_found test first zero end n sum from to passes = absurd (omega arith)
any_found test first (suc count) end n sum from to passes = elim (cases_Bool (test first)) [
  | inl here ↦ rw here refl
  | inr fails ↦
      let later : first + 1 ≤ n = grind (arith) in
      rw fails (any_found test (first + 1) count end n (omega arith) later to passes)
]

-- the number that passes
pub record Passing (test : ℕ → Bool) (first end : ℕ) : Type 0 where
  pub number : ℕ
  pub from : first ≤ number
  pub to : number < end
  pub passes : test number ≡ true

pub any_passing : (test : ℕ → Bool) (first count end : ℕ) → end ≡ first + count → is_any test first count ≡ true → Passing test first end
unfolding is_any
any_passing test first zero end sum any = cc
any_passing test first (suc count) end sum any = elim (cases_Bool (test first)) [
  | inl here ↦ record { number = first; from = omega arith; to = omega arith; passes = here }
  | inr fails ↦
      let found : Passing test (first + 1) end = any_passing test (first + 1) count end (omega arith) (rw fails at any) in
      record { number = found.number; from = omega (arith, found.from); to = found.to; passes = found.passes }
]

-- the least number, found or not, is that of the recursion
pub least_by : (test : ℕ → Bool) (first count : ℕ) (result : Option ℕ) → IfSome result (IsLeast test first (first + count))
    → IfNone result (NonePasses test first (first + count)) → result ≡ least_from test first count
least_by test first count (Some n) some none = sym (least_found test first count (first + count) n refl some)
least_by test first count None some none = sym (least_none test first count (first + count) refl none)

-- what is found passes, and nothing before it
pub least_passes : (test : ℕ → Bool) (first count n : ℕ) → least_from test first count ≡ Some n → test n ≡ true
unfolding least_from
least_passes test first zero n found = cc
least_passes test first (suc count) n found = elim (cases_Bool (test first)) [
  | inl here ↦ let same : first ≡ n = cc (rw here at found) in rw (← same) here
  | inr fails ↦ least_passes test (first + 1) count n (rw fails at found)
]

pub least_within : (test : ℕ → Bool) (first count n : ℕ) → least_from test first count ≡ Some n → (first ≤ n) × (n < first + count)
unfolding least_from
least_within test first zero n found = absurd (cc found)
least_within test first (suc count) n found = elim (cases_Bool (test first)) [
  | inl here ↦ let same : first ≡ n = cc (rw here at found) in (omega (arith, same), omega (arith, same))
  | inr fails ↦
      let later = least_within test (first + 1) count n (rw fails at found) in
      (omega (arith, later.0), omega (arith, later.1))
]
