use Rattle.std.proofs.Common.{◌≡◌, ℕ, ◌<◌, false}
use Rattle.process_table.specs.Slots.{is_sought}
use Rattle.process_table.proofs.slots.has_such.Given as goal

abbrev pub invariant-loop-slot : goal.invariant-loop-slot
invariant-loop-slot g l = record { none : (k : ℕ) → k < l.slot → is_sought l.sought ((g.V.RecordView.records l.view).procs k) ≡ false }
