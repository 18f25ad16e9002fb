-- The pages of starts, one after the other.
use Rattle.std.proofs.Common.{◌≡◌, ℕ, ◌+◌, ◌<◌, ◌≤◌, Bool, true, false, nat_lt, List, [], ◌∷◌, ◌++◌, length, get_or, take, arith, sym, refl}
use Rattle.std.specs.List.{slice_get}
use Rattle.std.proofs.lemmas.List.Sums.{sum_by-append, sum_by_push, sum_by_more, sum_by_more_le}
use Rattle.ow_base.specs.World.{pages_of_found, start_pages}
use Rattle.ow_base.specs.declared.worlds.Program.{Program}
use Rattle.ow_base.specs.declared.worlds.Start.{Start as Started}
use Rattle.world_file.proofs.WorldFields.{lt_true, lt_false, lt_is_true, lt_is_false}

-- the pages of one start
abbrev pub pages_of : List Program → Started → ℕ
pages_of programs start = pages_of_found (slice_get programs start.program)

pub pages_push : (programs : List Program) (starts : List Started) (start : Started) → start_pages programs (starts ++ start ∷ []) ≡ start_pages programs starts + pages_of programs start
pages_push programs starts start = sum_by_push (pages_of programs) starts start

pub pages_front : (programs : List Program) (starts more : List Started) → start_pages programs starts ≤ start_pages programs (starts ++ more)
pages_front programs starts more = omega (arith, sum_by-append (pages_of programs) starts more)

pub pages_more : (programs : List Program) (starts : List Started) (i : ℕ) (d : Started) → i < length starts
    → start_pages programs (take (i + 1) starts) ≡ start_pages programs (take i starts) + pages_of programs (get_or starts i d)
pages_more programs starts i d within = sum_by_more (pages_of programs) starts i d within

pub pages_within : (programs : List Program) (starts : List Started) (i : ℕ) (d : Started) → i < length starts
    → start_pages programs (take i starts) + pages_of programs (get_or starts i d) ≤ start_pages programs starts
pages_within programs starts i d within = sum_by_more_le (pages_of programs) starts i d within

-- what is free falls short as the whole does with what is taken
pub short_alike : (free taken whole more : ℕ) → free + taken ≡ whole → nat_lt free more ≡ nat_lt whole (taken + more)
short_alike free taken whole more e = by_test (nat_lt free more) refl
  where
    by_test : (test : Bool) → nat_lt free more ≡ test → test ≡ nat_lt whole (taken + more)
    by_test true h = sym (lt_is_true whole (taken + more) (omega (arith, e, lt_true free more h)))
    by_test false h = sym (lt_is_false whole (taken + more) (omega (arith, e, lt_false free more h)))
