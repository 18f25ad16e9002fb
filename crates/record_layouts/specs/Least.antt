-- The least number that passes a test.
use Rattle.std.specs.Prelude.{◌≡◌, ℕ, ◌<◌, ◌≤◌, Bool, true, false}

-- none of the numbers from `first` up to `end`, without it, passes
pub record NonePasses (test : ℕ → Bool) (first end : ℕ) : Type 0 where
  pub none : (k : ℕ) → first ≤ k → k < end → test k ≡ false

-- the number passes, and none from `first` on that is less does
pub record IsLeast (test : ℕ → Bool) (first end n : ℕ) : Type 0 where
  pub from : first ≤ n
  pub to : n < end
  pub passes : test n ≡ true
  pub below : NonePasses test first n
