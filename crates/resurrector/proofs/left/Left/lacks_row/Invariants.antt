use Rattle.record_layouts.specs.Least.{NonePasses}
use Rattle.dead_reader.specs.Terminals.{is_lost_row}
use Rattle.resurrector.proofs.left.Left.lacks_row.Given as goal

abbrev pub invariant-loop-place : goal.invariant-loop-place
invariant-loop-place g l = record { below : NonePasses (is_lost_row (g.V.RecordView.records l.self.view.now) l.tty) 0 l.place }
