-- Traps: which one comes next, and what each makes of a state.
use Rattle.std.specs.Prelude.{ℕ, ◌+◌, nat_lt, if◌then◌else◌, Option, Some, None}
use Rattle.ow_base.specs.UserStep.{Stepped, Next, Call, Faulted}
use Rattle.ow_base.specs.Pages.{Pages}
use Rattle.ow_base.specs.declared.machine.Came.{Came}
use Rattle.ow_base.specs.declared.machine.Came.TheVariants as came
use Rattle.ow_base.specs.declared.machine.Shape.{Shape}
use Rattle.ow_base.specs.declared.worlds.Ending.{Ending}
use Rattle.record_layouts.specs.Unix.State.{Unix, Process, Position, AtKernel, AtUser, AtPanic}
use Rattle.record_layouts.specs.Unix.Choice.{Keys, chosen, deliverable, settled}
use Rattle.record_layouts.specs.Unix.Calls.{trapped, ended_as, call_entered, piece_of}
use Rattle.record_layouts.specs.Unix.Signals.{signalled}
use Rattle.record_layouts.specs.Unix.Turn.{step_of, stepped, idled, ending_of, closed}
use Rattle.record_layouts.specs.declared.traps.Trap.{Trap}
use Rattle.record_layouts.specs.declared.traps.Trap.TheVariants as trap

-- the process that has a trap
abbrev pub pid_of : Trap → Option ℕ
pid_of (trap.Entry pid) = Some pid
pid_of (trap.Piece pid) = Some pid
pid_of (trap.Fault pid cause) = Some pid
pid_of (trap.Slice pid) = Some pid
pid_of (trap.Signal pid signal) = Some pid
pid_of trap.Idle = None
pid_of (trap.Closing pid) = pid

-- a pid as a number, 0 for none
abbrev pub or_zero : Option ℕ → ℕ
or_zero (Some pid) = pid
or_zero None = 0

-- the process whose call a trap enters, 0 where it enters none
abbrev pub caller_of : Trap → ℕ
caller_of (trap.Entry pid) = pid
caller_of other = 0

-- from where the processor comes into the kernel
abbrev pub came_of : Trap → Came
came_of (trap.Entry pid) = came.Call
came_of (trap.Piece pid) = came.Kernel
came_of (trap.Fault pid cause) = came.User
came_of (trap.Slice pid) = came.User
came_of (trap.Signal pid signal) = came.Kernel
came_of trap.Idle = came.Kernel
came_of (trap.Closing pid) = came.Closing

-- how many steps a trap is: one, and the closing one none
abbrev pub steps_in : Trap → ℕ
steps_in (trap.Closing pid) = 0
steps_in other = 1

-- the trap that the instruction of a process is, none where it is made
abbrev pub trap_of_step : (pid : ℕ) → Stepped Pages → Option Trap
trap_of_step pid (Next regs pc pages) = None
trap_of_step pid Call = Some (trap.Entry pid)
trap_of_step pid (Faulted fault) = Some (trap.Fault pid fault.cause)

-- in user mode: the end of the slice after quantum instructions, else the trap of the next one
abbrev pub trap_of_user : (quantum pid count : ℕ) → Option Process → Option Trap
trap_of_user quantum pid count (Some p) = if nat_lt count quantum then trap_of_step pid (step_of p) else Some (trap.Slice pid)
trap_of_user quantum pid count None = None

-- in the kernel: the signal that goes to the chosen process, else the piece of its call; an idle trap where none is
-- chosen
abbrev pub signal_or_piece_of : (pid : ℕ) → (signal : Option ℕ) → Trap
signal_or_piece_of pid (Some signal) = trap.Signal pid signal
signal_or_piece_of pid None = trap.Piece pid

abbrev pub trap_if_live : (pid : ℕ) → Option Process → Option Trap
trap_if_live pid (Some p) = Some (signal_or_piece_of pid (deliverable p))
trap_if_live pid None = None

abbrev pub trap_or_idle : Unix → Option ℕ → Option Trap
trap_or_idle u (Some pid) = trap_if_live pid (u.processes pid)
trap_or_idle u None = Some trap.Idle

-- the trap that the turn of a settled state is, none where it is an instruction
unfoldable pub trap_at : Keys → (quantum : ℕ) → Unix → Position → Option Trap
trap_at keys quantum u (AtUser pid count) = trap_of_user quantum pid count (u.processes pid)
trap_at keys quantum u AtKernel = trap_or_idle u (chosen keys u)
trap_at keys quantum u (AtPanic caller) = None

-- the trap that the turn of a state is
unfoldable pub trap_of_turn : Keys → Shape → Unix → Option Trap
trap_of_turn keys shape u = trap_at keys shape.quantum (settled keys u) (settled keys u).position

-- the closing trap: of the process in user mode, if there is one
abbrev pub user_of : Position → Option ℕ
user_of (AtUser pid count) = Some pid
user_of AtKernel = None
user_of (AtPanic caller) = None

abbrev pub closing_of : Unix → Trap
closing_of u = trap.Closing (user_of u.position)

-- the next trap: where the run ends the closing one, else that of the turn
abbrev pub trap_by_ending : Keys → Shape → Unix → Option Ending → Option Trap
trap_by_ending keys shape u (Some ending) = Some (closing_of u)
trap_by_ending keys shape u None = trap_of_turn keys shape u

unfoldable pub next_trap : Keys → Shape → Unix → Option Trap
next_trap keys shape u = trap_by_ending keys shape u (ending_of shape u)

-- what is made of a state where a process is live
abbrev pub if_live : Unix → Option Process → (made : Process → Unix) → Unix
if_live u (Some p) made = made p
if_live u None made = u

-- the state after a trap, from the one that it begins from: for the closing one any, else a settled one
unfoldable pub after_trap : Unix → Trap → Unix
after_trap u (trap.Entry pid) = if_live u (u.processes pid) (λ p. call_entered u pid p)
after_trap u (trap.Piece pid) = if_live u (u.processes pid) (λ p. piece_of u pid p)
after_trap u (trap.Fault pid cause) = if_live u (u.processes pid) (λ p. ended_as (trapped u pid) pid p (0x200 + cause))
after_trap u (trap.Slice pid) = trapped u pid
after_trap u (trap.Signal pid signal) = if_live u (u.processes pid) (λ p. signalled u pid p signal)
after_trap u trap.Idle = idled u
after_trap u (trap.Closing pid) = closed u

-- the state after an instruction, from a settled one
abbrev pub instructed_by : Unix → (pid count : ℕ) → Option Process → Unix
instructed_by u pid count (Some p) = stepped u pid count p (step_of p)
instructed_by u pid count None = u

unfoldable pub instructed : Unix → Position → Unix
instructed u (AtUser pid count) = instructed_by u pid count (u.processes pid)
instructed u AtKernel = u
instructed u (AtPanic caller) = u

-- a settled state after the turn that has this trap, or is an instruction
abbrev pub turned_by : Unix → Option Trap → Unix
turned_by u (Some t) = after_trap u t
turned_by u None = instructed u u.position
