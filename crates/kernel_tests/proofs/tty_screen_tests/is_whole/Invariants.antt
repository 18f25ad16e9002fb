use Rattle.std.proofs.Common.{◌≡◌, ℕ, ◌+◌, ◌*◌, ◌<◌, true, is_some}
use Rattle.kernel_tests.proofs.tty_screen_tests.is_whole.Given as goal

abbrev pub invariant-loop-place : goal.invariant-loop-place
invariant-loop-place g l = (k : ℕ) → k < l.place → is_some ((g.V.RecordView.records l.view).rows (24 * l.tty + k)) ≡ true
