use Rattle.frame_table.specs.Free.{IsNthFree}
use Rattle.frame_table.proofs.pool.nth_number.Given as goal

abbrev pub invariant-loop-before : goal.invariant-loop-before
invariant-loop-before g l = record { nth : IsNthFree (g.V.RecordView.records l.view) l.user_frames l._before l.number }
