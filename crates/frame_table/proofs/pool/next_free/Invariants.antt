use Rattle.std.proofs.Common.{◌≤◌}
use Rattle.record_layouts.specs.Least.{NonePasses}
use Rattle.frame_table.specs.Free.{is_free_frame}
use Rattle.frame_table.proofs.pool.next_free.Given as goal

abbrev pub invariant-loop-number : goal.invariant-loop-number
invariant-loop-number g l = record { from : l.from ≤ l.number; below : NonePasses (is_free_frame (g.V.RecordView.records l.view)) l.from l.number }
