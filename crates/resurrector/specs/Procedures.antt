-- What a panic makes of the call in which it found a process, and how a process enters its crash procedure.
use Rattle.std.specs.Prelude.{ℕ, ◌+◌, ◌/◌, ◌%◌, ◌<◌, Bool, true, false, ◌==◌, if◌then◌else◌, bit_or}
use Rattle.ow_base.specs.UserStep.{with_register}
use Rattle.ow_base.specs.Words.{minus, wrapped}
use Rattle.ow_base.specs.declared.machine.Bank.{Bank}
use Rattle.record_layouts.specs.declared.dead_proc.DeadProc.{DeadProc}
use Rattle.record_layouts.specs.declared.proc.ProcRec.{ProcRec}
use Rattle.record_layouts.specs.declared.fates.Fate.{Fate}
use Rattle.record_layouts.specs.declared.fates.Fate.TheVariants as fate

-- a call that is answered ECRASH, 200: control is behind it
abbrev pub aborted_call : ProcRec → ProcRec
aborted_call process = record process { regs = with_register process.regs 10 (minus 200); pc = wrapped (process.pc + 4) }

-- the process is outside a call: one that is made again is not begun yet
unfoldable pub brought_out : DeadProc → ProcRec
brought_out dead =
    let outside = record dead.rec { state = 1; call = 0; done = 0 } in
    if dead.aborted then aborted_call outside else outside

-- a process whose crash procedure runs
abbrev pub is_in_procedure : ProcRec → Bool
is_in_procedure process = process.flags / 2 == 1

-- What the procedure is told: the bits of what the process lost, and 16 where its call was aborted. They are joined to the
-- mask that it was told before, where it runs already.
abbrev pub bits_told : DeadProc → (lost : ℕ) → ℕ
bits_told dead lost = if dead.aborted then lost + 16 else lost

unfoldable pub mask_told : DeadProc → (lost : ℕ) → ℕ
mask_told dead lost = if is_in_procedure dead.rec then bit_or dead.rec.mask (bits_told dead lost) else bits_told dead lost

-- the context to which it returns: the one that was saved first stays
abbrev pub context_saved : ProcRec → Bank
context_saved process = if is_in_procedure process then process.crash_save else record { pc = process.pc; regs = process.regs }

abbrev pub in_procedure : (mask : ℕ) → ProcRec → ProcRec
in_procedure mask process = record process {
  regs = with_register process.regs 10 mask;
  pc = process.procedure;
  mask = mask;
  flags = process.flags % 2 + 2;
  crash_save = context_saved process;
}

-- the record with which the process goes on, by what it lost
unfoldable pub revived : DeadProc → (lost : ℕ) → ProcRec
revived dead lost = if dead.rec.procedure == 0 then brought_out dead else in_procedure (mask_told dead lost) (brought_out dead)

-- the fate of a process by its call alone
abbrev pub fate_by_call : DeadProc → Fate
fate_by_call dead = if dead.aborted then fate.Aborted else if dead.stands then fate.Stands else fate.Goes

-- its fate: a crash procedure copes with what was lost, and without one the process is lost with it
unfoldable pub fate_with : DeadProc → (lost : ℕ) → Fate
fate_with dead lost =
    if dead.rec.procedure == 0 then (if lost == 0 then fate_by_call dead else fate.Lost lost) else fate.Procedure (mask_told dead lost)

abbrev pub is_lost : Fate → Bool
is_lost (fate.Lost bits) = true
is_lost fate.Goes = false
is_lost fate.Aborted = false
is_lost fate.Stands = false
is_lost (fate.Procedure mask) = false

-- the bits of a loss are below 16
abbrev pub HasFewBits : Fate → Type 0
HasFewBits (fate.Lost bits) = bits < 16
HasFewBits other = Unit {0}
