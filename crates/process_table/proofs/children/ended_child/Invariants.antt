use Rattle.std.proofs.Common.{◌≡◌, ℕ, ◌<◌, false}
use Rattle.process_table.specs.Children.{is_first_child}
use Rattle.process_table.proofs.children.ended_child.Given as goal

abbrev pub invariant-loop-slot : goal.invariant-loop-slot
invariant-loop-slot g l = record { none : (k : ℕ) → k < l.slot → is_first_child (g.V.RecordView.records l.view) l.parent ((g.V.RecordView.records l.view).procs k) ≡ false }
