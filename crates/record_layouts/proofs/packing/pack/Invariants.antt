use Rattle.std.proofs.Common.{◌≡◌, ℕ, ◌*◌, ◌<◌, get_or}
use Rattle.ow_base.specs.Words.{byte_of_words}
use Rattle.record_layouts.proofs.packing.pack.Given as goal

abbrev pub invariant-loop-k : goal.invariant-loop-k
invariant-loop-k l = (j : ℕ) → j < 4 * l.k → get_or l.bytes j 0 ≡ byte_of_words l.words j
