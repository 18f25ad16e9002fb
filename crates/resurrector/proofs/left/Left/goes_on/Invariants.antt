use Rattle.record_layouts.specs.Least.{NonePasses}
use Rattle.dead_reader.specs.Left.{handed_of}
use Rattle.resurrector.specs.Survivors.{has_pid, survivor_in}
use Rattle.resurrector.proofs.left.Left.goes_on.Given as goal

abbrev pub invariant-loop-slot : goal.invariant-loop-slot
invariant-loop-slot g l = record { below : NonePasses (λ slot. has_pid l.pid (survivor_in (g.V.RecordView.records l.self.view.now) (handed_of l.self.handed) slot)) 0 l.slot }
