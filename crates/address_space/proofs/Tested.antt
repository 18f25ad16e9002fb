-- Ranges of bytes of which each is tested.
use Rattle.std.proofs.Common.{◌≡◌, ℕ, zero, suc, ◌+◌, ◌<◌, Bool, true, false, ◌&&◌, refl, ◌∙◌, arith, add-zero}
use Rattle.frame_table.proofs.Keeping.{and_false}

both_true : (a b : Bool) → a ≡ true → b ≡ true → (a && b) ≡ true
both_true true true p q = refl
both_true true false p q = q
both_true false b p q = p

first_false : (a b : Bool) → a ≡ false → (a && b) ≡ false
first_false true b p = grind arith
first_false false b p = refl

-- a test of a range that asks a test of each of its places
module _ (test : ℕ → Bool) (whole : ℕ → ℕ → Bool) (none : (a : ℕ) → whole a zero ≡ true) (more : (a n : ℕ) → whole a (suc n) ≡ (test a && whole (a + 1) n)) where
  pub whole_true : (a n : ℕ) → ((k : ℕ) → k < n → test (a + k) ≡ true) → whole a n ≡ true
  whole_true a zero each = none a
  whole_true a (suc n) each =
      let here = rw add-zero at (each 0 (omega arith)) in
      let behind : (k : ℕ) → k < n → test ((a + 1) + k) ≡ true =
      λ k below. let place : a + suc k ≡ (a + 1) + k = omega arith in rw place at (each (suc k) (omega arith)) in
      more a n ∙ both_true (test a) (whole (a + 1) n) here (whole_true (a + 1) n behind)

  pub whole_false : (a n k : ℕ) → k < n → test (a + k) ≡ false → whole a n ≡ false
  whole_false a zero k below not = grind arith
  whole_false a (suc n) zero below not = more a n ∙ first_false (test a) (whole (a + 1) n) (rw add-zero at not)
  whole_false a (suc n) (suc k) below not =
      let place : a + suc k ≡ (a + 1) + k = omega arith in
      more a n ∙ and_false (test a) (whole (a + 1) n) (whole_false (a + 1) n k (omega arith) (rw place at not))
