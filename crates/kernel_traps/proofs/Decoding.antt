-- Records that decode because all do: those of a call that can be served, and those that a trap asks for.
use Rattle.std.proofs.Common.{◌≡◌, ℕ, ◌+◌, ◌*◌, ◌<◌, ◌≤◌, true, Option, Some, None, IfSome, is_some, refl, subst, arith}
use Rattle.record_layouts.specs.declared.places.RecordId.TheVariants as id
use Rattle.record_layouts.specs.Held.{AreValues, Records}
use Rattle.record_layouts.specs.declared.traps.Trap.{Trap}
use Rattle.record_layouts.specs.Unix.Traps.{pid_of}
use Rattle.process_table.proofs.Seats.{pid_range}
use Rattle.ow_plant.specs.State.{PlantState}
use Rattle.intent_store.specs.Live.{records_held}
use Rattle.kernel_traps.specs.Plants.{IsHeldSound}
use Rattle.kernel_traps.specs.Traps.{IsHad, IsSlotOf}
use Rattle.record_layouts.specs.declared.proc.ProcRec.{ProcRec}
use Rattle.record_layouts.specs.Pages.{is_mapped}
use Rattle.syscalls.specs.Serving.{CanCall}
use Rattle.tty_screen.specs.Shown.{TerminalDecodes}

there_with : (held : Option ProcRec) (P : ProcRec → Type 0) → is_some held ≡ true → IfSome held P → (process : ProcRec) × (held ≡ Some process) × P process
there_with (Some process) P some holds = (process, refl, holds)
there_with None P some holds = cc

-- the process in the slot, each page of which has a frame
pub process_there : (r : Records) (slot : ℕ) → CanCall r slot → (process : ProcRec) × (r.procs slot ≡ Some process) × (is_mapped r slot process ≡ true)
process_there r slot can = there_with (r.procs slot) (λ process. is_mapped r slot process ≡ true) (can.complete (id.Proc slot) can.within) can.mapped

pub terminal_there : (r : Records) (slot tty : ℕ) → CanCall r slot → tty < 2 → TerminalDecodes r tty
terminal_there r slot tty can low = record {
  terminal = can.complete (id.Term tty) low;
  rows = λ place few. can.complete (id.Row (24 * tty + place)) (omega arith);
}

-- the head of a plant
pub head_decodes : (s : PlantState) → IsHeldSound s → is_some (records_held s).head ≡ true
head_decodes s sound = sound.records.complete id.Head tt

-- the process of a trap has a pid
pub pid_had : (r : Records) (t : Trap) (pid slot : ℕ) → AreValues r → pid_of t ≡ Some pid → IsHad r t slot → (1 ≤ pid) × (pid ≤ 256)
pid_had r t pid slot values is (process, has) =
    let seat : IsSlotOf r (Some pid) slot process = subst (λ (held : Option ℕ). IsSlotOf r held slot process) is has.seat in
    subst (λ (n : ℕ). (1 ≤ n) × (n ≤ 256)) seat.1 (pid_range r slot process values seat.0)
