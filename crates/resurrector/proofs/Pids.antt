-- The pid behind the greatest that was given away.
use Rattle.std.proofs.Common.{◌≡◌, ℕ, suc, ◌+◌, true, false, refl, arith}
use Rattle.record_layouts.specs.Held.{Records}
use Rattle.record_layouts.specs.Sound.{is_used}
use Rattle.resurrector.specs.Revived.{next_behind}

pub next_first : (r : Records) → next_behind r 0 ≡ 1
unfolding next_behind
next_first r = refl

next_is : (k : ℕ) → k + 1 ≡ suc k
next_is k = omega arith

behind_used : (r : Records) (pid : ℕ) → is_used (r.exits (suc pid)) ≡ true → next_behind r (suc pid) ≡ suc pid + 1
unfolding next_behind
behind_used r pid used = rw used refl

behind_unused : (r : Records) (pid : ℕ) → is_used (r.exits (suc pid)) ≡ false → next_behind r (suc pid) ≡ next_behind r pid
unfolding next_behind
behind_unused r pid unused = rw unused refl

pub next_used : (r : Records) (pid : ℕ) → is_used (r.exits (pid + 1)) ≡ true → pid + 2 ≡ next_behind r (pid + 1)
next_used r pid used =
    let same = next_is pid in
    let its : is_used (r.exits (suc pid)) ≡ true = rw (← same) used in
    let found = behind_used r pid its in
    rw (same, found) (omega arith)

pub next_unused : (r : Records) (pid next : ℕ) → is_used (r.exits (pid + 1)) ≡ false → next ≡ next_behind r pid → next ≡ next_behind r (pid + 1)
next_unused r pid next unused is =
    let same = next_is pid in
    let its : is_used (r.exits (suc pid)) ≡ false = rw (← same) unused in
    let found = behind_unused r pid its in
    rw (same, found) is
