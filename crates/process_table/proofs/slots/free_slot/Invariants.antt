use Rattle.std.proofs.Common.{◌≡◌, ℕ, ◌<◌, false}
use Rattle.process_table.specs.Slots.{is_free}
use Rattle.process_table.proofs.slots.free_slot.Given as goal

abbrev pub invariant-loop-slot : goal.invariant-loop-slot
invariant-loop-slot g l = record { none : (k : ℕ) → k < l.slot → is_free (g.V.RecordView.records l.view) ((g.V.RecordView.records l.view).procs k) ≡ false }
