use Rattle.std.proofs.Common.{◌≡◌, ℕ, ◌+◌, ◌<◌, Some, get_or}
use Rattle.record_layouts.specs.Pages.{byte_on}
use Rattle.address_space.proofs.ranges.read_frame.Given as goal

abbrev pub invariant-loop-k : goal.invariant-loop-k
invariant-loop-k g l = (j : ℕ) → j < l.k → get_or l.to j 0 ≡ byte_on (g.V.WordSource.words l.view) (l.offset + j) (Some l.frame)
