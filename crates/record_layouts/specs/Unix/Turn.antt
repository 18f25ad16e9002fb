-- Turn: one user instruction, or one trap.
use Rattle.std.specs.Prelude.{ℕ, ◌+◌, nat_lt, ◌==◌, if◌then◌else◌, Option, Some, None}
use Rattle.ow_base.specs.UserStep.{Stepped, Next, Call, Faulted, user_step}
use Rattle.ow_base.specs.Pages.{Pages, page_space}
use Rattle.record_layouts.specs.Unix.State.{Unix, Process, Position, AtKernel, AtUser, AtPanic}
use Rattle.record_layouts.specs.Unix.Choice.{Keys, no_keys, chosen, deliverable, settled, has_live_process}
use Rattle.record_layouts.specs.Unix.Signals.{signalled}
use Rattle.record_layouts.specs.Unix.Calls.{trapped, with_process, ended_as, call_entered, piece_of}
use Rattle.ow_base.specs.declared.machine.Shape.{Shape}
use Rattle.ow_base.specs.declared.worlds.Ending.{Ending}
use Rattle.ow_base.specs.declared.worlds.Ending.TheVariants.{Done, Budget}

-- the step that a process makes in user mode
unfoldable pub step_of : Process → Stepped Pages
step_of p = user_step page_space p.bank.regs p.bank.pc p.pages

-- after that step: it counts, or it is a call or a fault, whose status word is 0x200 + cause
unfoldable pub stepped : Unix → (pid count : ℕ) → Process → Stepped Pages → Unix
stepped u pid count p (Next regs pc pages) =
    record (with_process u pid (record p { bank = record { pc = pc; regs = regs }; pages = pages })) {
      steps = u.steps + 1;
      position = AtUser pid (count + 1);
    }
stepped u pid count p Call = call_entered u pid p
stepped u pid count p (Faulted fault) = ended_as (trapped u pid) pid p (0x200 + fault.cause)

-- in user mode: an instruction, or the end of the slice after quantum of them
unfoldable pub user_turn : (quantum : ℕ) → Unix → (pid count : ℕ) → Option Process → Unix
user_turn quantum u pid count (Some p) = if nat_lt count quantum then stepped u pid count p (step_of p) else trapped u pid
user_turn quantum u pid count None = u

-- a trap in which no process can run
unfoldable pub idled : Unix → Unix
idled u = record u { steps = u.steps + 1; traps = u.traps + 1 }

-- the signal that goes to a process that is chosen in the kernel, else the piece of its call; an idle trap where there
-- is none
abbrev pub signal_or_piece : Unix → (pid : ℕ) → Process → (signal : Option ℕ) → Unix
signal_or_piece u pid p (Some signal) = signalled u pid p signal
signal_or_piece u pid p None = piece_of u pid p

abbrev pub served_if_live : Unix → (pid : ℕ) → Option Process → Unix
served_if_live u pid (Some p) = signal_or_piece u pid p (deliverable p)
served_if_live u pid None = u

abbrev pub served_or_idle : Unix → Option ℕ → Unix
served_or_idle u (Some pid) = served_if_live u pid (u.processes pid)
served_or_idle u None = idled u

-- the turn of a settled state
unfoldable pub turn_at : Keys → (quantum : ℕ) → Unix → Position → Unix
turn_at keys quantum u (AtUser pid count) = user_turn quantum u pid count (u.processes pid)
turn_at keys quantum u AtKernel = served_or_idle u (chosen keys u)
turn_at keys quantum u (AtPanic caller) = u

-- Turn; nothing is typed yet
unfoldable pub turn : Shape → Unix → Unix
turn shape u = turn_at no_keys shape.quantum (settled no_keys u) (settled no_keys u).position

-- Ends: where no process is live the run is done; else it ends where the steps equal the budget
unfoldable pub ending_of : Shape → Unix → Option Ending
ending_of shape u =
    if has_live_process u
    then (if u.steps == shape.budget then Some Budget else None)
    else Some Done

-- the closing trap counts as a trap and as no step, and changes nothing else
unfoldable pub closed : Unix → Unix
closed u = record u { traps = u.traps + 1; position = AtKernel }
