use Rattle.std.proofs.Common.{◌≡◌, ◌≤◌}
use Rattle.frame_table.specs.Free.{free_before}
use Rattle.frame_table.proofs.pool.free_frames.Given as goal

abbrev pub invariant-loop-number : goal.invariant-loop-number
invariant-loop-number g l = record { free : l.free ≡ free_before (g.V.RecordView.records l.view) l.number; few : l.free ≤ l.number }
