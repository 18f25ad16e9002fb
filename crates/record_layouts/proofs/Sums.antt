-- Sums over so many numbers from a first one on.
use Rattle.std.proofs.Common.{◌≡◌, ◌≢◌, ℕ, zero, suc, ◌+◌, ◌<◌, ◌≤◌, Bool, false, nat_le, not, if◌then◌else◌, refl, sym, ap, ◌∙◌, inl, inr, arith}
use Rattle.std.proofs.lemmas.Bool.{cases_Bool, cases_eq}
use Rattle.std.proofs.lemmas.Bool.Decides.{nat_tests}
use Rattle.record_layouts.specs.Unix.Choice.{is_any}
use Rattle.record_layouts.specs.Unix.State.{sum_from}

pub sum_same : (f g : ℕ → ℕ) (first count end : ℕ) → end ≡ first + count → ((k : ℕ) → first ≤ k → k < end → f k ≡ g k) → sum_from f first count ≡ sum_from g first count
unfolding sum_from
sum_same f g first zero end sum same = refl
sum_same f g first (suc count) end sum same =
    let here = same first (omega arith) (omega arith) in
    let behind = sum_same f g (first + 1) count end (omega arith) (λ k from to. same k (omega arith) to) in
    omega (arith, here, behind)

pub sum_none : (f : ℕ → ℕ) (first count end : ℕ) → end ≡ first + count → ((k : ℕ) → first ≤ k → k < end → f k ≡ 0) → sum_from f first count ≡ 0
unfolding sum_from
sum_none f first zero end sum none = refl
sum_none f first (suc count) end sum none =
    let here = none first (omega arith) (omega arith) in
    let behind = sum_none f (first + 1) count end (omega arith) (λ k from to. none k (omega arith) to) in
    omega (arith, here, behind)

pub sum_ones : (f : ℕ → ℕ) (first count end : ℕ) → end ≡ first + count → ((k : ℕ) → first ≤ k → k < end → f k ≡ 1) → sum_from f first count ≡ count
unfolding sum_from
sum_ones f first zero end sum one = refl
sum_ones f first (suc count) end sum one =
    let here = one first (omega arith) (omega arith) in
    let behind = sum_ones f (first + 1) count end (omega arith) (λ k from to. one k (omega arith) to) in
    omega (arith, here, behind)

-- the last number of a sum counts beside the others
with_last : (f : ℕ → ℕ) (first count last : ℕ) → last ≡ first + count → sum_from f first (suc count) ≡ sum_from f first count + f last
unfolding sum_from
with_last f first zero last sum = let same : f last ≡ f first = ap f (omega arith) in omega (arith, same)
with_last f first (suc count) last sum =
    let behind = with_last f (first + 1) count last (omega arith) in
    ap (λ n. f first + n) behind ∙ omega arith

pub sum_more : (f : ℕ → ℕ) (count : ℕ) → sum_from f 0 (suc count) ≡ sum_from f 0 count + f count
sum_more f count = with_last f 0 count count (omega arith)

-- a sum in which at most one number counts is what this one counts
pub sum_one : (f : ℕ → ℕ) (n value first count end : ℕ) → end ≡ first + count → first ≤ n → n < end → f n ≡ value
    → ((k : ℕ) → first ≤ k → k < end → k ≢ n → f k ≡ 0) → sum_from f first count ≡ value
unfolding sum_from
sum_one f n value first zero end sum from to one others = absurd (omega arith)
sum_one f n value first (suc count) end sum from to one others = elim (cases_eq n first) [
  | inl same ↦
      let here : f first ≡ value = ap f (sym same) ∙ one in
      let behind = sum_none f (first + 1) count end (omega arith) (λ k later below. others k (omega arith) below (omega arith)) in
      omega (arith, here, behind)
  | inr apart ↦
      let here = others first (omega arith) (omega arith) (λ same. apart (sym same)) in
      let behind = sum_one f n value (first + 1) count end (omega arith) (omega arith) to one (λ k later below other. others k (omega arith) below other) in
      omega (arith, here, behind)
]

pub sum_plus : (f g : ℕ → ℕ) (first count : ℕ) → sum_from (λ k. f k + g k) first count ≡ sum_from f first count + sum_from g first count
unfolding sum_from
sum_plus f g first zero = refl
sum_plus f g first (suc count) = omega (arith, sum_plus f g (first + 1) count)

-- sums over two numbers may be taken in either order
pub sum_swap : (f : ℕ → ℕ → ℕ) (first count start others : ℕ)
    → sum_from (λ i. sum_from (f i) start others) first count ≡ sum_from (λ j. sum_from (λ i. f i j) first count) start others
unfolding sum_from
sum_swap f first zero start others = sym (sum_none (λ j. 0) start others (start + others) refl (λ k from to. refl))
sum_swap f first (suc count) start others =
    ap (λ n. sum_from (f first) start others + n) (sum_swap f (first + 1) count start others)
    ∙ sym (sum_plus (f first) (λ j. sum_from (λ i. f i j) (first + 1) count) start others)

-- what all rows of a table sum to is what all columns sum to
pub rows_as_columns : (f : ℕ → ℕ → ℕ) (rows columns : ℕ → ℕ) (first count start others : ℕ)
    → ((i : ℕ) → first ≤ i → i < first + count → sum_from (f i) start others ≡ rows i)
    → ((j : ℕ) → start ≤ j → j < start + others → sum_from (λ i. f i j) first count ≡ columns j)
    → sum_from rows first count ≡ sum_from columns start others
rows_as_columns f rows columns first count start others row column =
    sum_same rows (λ i. sum_from (f i) start others) first count (first + count) refl (λ i from to. sym (row i from to))
    ∙ (sum_swap f first count start others ∙ sum_same (λ j. sum_from (λ i. f i j) first count) columns start others (start + others) refl column)

-- of so many numbers at most so many fail, and so many exactly where none passes
few_fail : (test : ℕ → Bool) (first count : ℕ) → sum_from (λ k. if test k then 0 else 1) first count ≤ count
unfolding sum_from
few_fail test first zero = omega arith
few_fail test first (suc count) = let behind = few_fail test (first + 1) count in elim (cases_Bool (test first)) [
  | inl passes ↦ rw passes (omega (arith, behind))
  | inr fails ↦ rw fails (omega (arith, behind))
]

past_few : (count sum : ℕ) → sum ≤ count → nat_le (suc count) (0 + sum) ≡ false
past_few count sum few = grind (arith, nat_tests)

one_more : (count sum : ℕ) → nat_le (suc count) (1 + sum) ≡ nat_le count sum
one_more count sum = grind (arith, nat_tests)

pub all_fail : (test : ℕ → Bool) (first count : ℕ) → nat_le count (sum_from (λ k. if test k then 0 else 1) first count) ≡ not (is_any test first count)
unfolding sum_from is_any
all_fail test first zero = refl
all_fail test first (suc count) = let behind = sum_from (λ k. if test k then 0 else 1) (first + 1) count in elim (cases_Bool (test first)) [
  | inl passes ↦ rw passes (past_few count behind (few_fail test (first + 1) count))
  | inr fails ↦ rw fails (one_more count behind ∙ all_fail test (first + 1) count)
]
