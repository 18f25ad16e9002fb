-- Which state of the Unix a plant stands for, and what holds of it between turns and inside a trap. What is said of its
-- image is said of images, and of the machine beside it what no image shows.
use Rattle.std.specs.Prelude.{◌≡◌, ℕ, ◌+◌, ◌-◌, ◌*◌, ◌^◌, ◌<◌, ◌≤◌, true, false, if◌then◌else◌, length, drop, None, IfSome}
use Rattle.ow_base.specs.Screen.{screen_of}
use Rattle.sv32_tables.specs.Spaces.{satp_of}
use Rattle.record_layouts.specs.declared.proc.ProcRec.{ProcRec}
use Rattle.record_layouts.specs.declared.term.TermRec.{TermRec}
use Rattle.record_layouts.specs.declared.intent.Gate.TheVariants.{Closed}
use Rattle.record_layouts.specs.Held.{Records}
use Rattle.record_layouts.specs.Images.{unix_of_image}
use Rattle.record_layouts.specs.Pages.{table_frame}
use Rattle.record_layouts.specs.Decode.{Context, InKernel, InUser}
use Rattle.record_layouts.specs.Sound.{AreInBuiltCalls, AreOnTerminals, AreSound, IsIn}
use Rattle.record_layouts.specs.SoundImages.{IsServedBefore}
use Rattle.record_layouts.specs.Terminals.{IsOfTape}
use Rattle.record_layouts.specs.Unix.State.{Unix}
use Rattle.ow_plant.specs.Images.{image_of}
use Rattle.ow_plant.specs.State.{PlantState, IsArmed, now_of, tty_of, Device}
use Rattle.intent_store.specs.Live.{records_held, gate_held}

-- what the processor has of a process
abbrev pub context_of : PlantState → Context
context_of s = if s.in_user then InUser s.user_pid s.slice s.bank else InKernel

-- the state of the Unix
unfoldable pub unix_at : PlantState → Unix
unix_at s = unix_of_image (image_of s) (context_of s) s.steps s.traps

-- The record of a terminal is of the device's tape, and the device shows the screen of the bytes from the base on, as the
-- records of the terminal do.
pub record IsOfDevice (r : Records) (tty : ℕ) (device : Device) (terminal : TermRec) : Type 0 where
  pub tape : IsOfTape r tty device.tape terminal
  pub display : device.display ≡ screen_of (drop terminal.base device.tape)

-- both terminals, after so many steps in which bytes went out: at most 16 in each
pub record AreTerminalsSound (s : PlantState) (steps : ℕ) : Type 0 where
  pub records : (tty : ℕ) → tty < 2 → IfSome ((records_held s).terms tty) (IsOfDevice (records_held s) tty (tty_of s tty))
  pub bytes : (tty : ℕ) → tty < 2 → length (tty_of s tty).tape ≤ 16 * steps

-- what holds of memory and of the records in it while no refusal stands, between turns and inside a trap
pub record IsHeldSound (s : PlantState) : Type 0 where
  pub armed : IsArmed s
  pub able : s.refusal ≡ None
  pub shut : gate_held s ≡ Closed
  pub records : AreSound (records_held s)
  pub on_terminals : AreOnTerminals (records_held s)
  pub in_built_calls : AreInBuiltCalls (records_held s)

-- the process in user mode is live and outside a call, and the tables in use are those of its slot
pub record IsRunning (s : PlantState) (slot : ℕ) (process : ProcRec) : Type 0 where
  pub there : IsIn (records_held s) slot process
  pub pid : process.pid ≡ s.user_pid
  pub outside : process.state ≡ 1
  pub root : s.satp ≡ satp_of ((records_held s).map.area_base + table_frame slot 0)

-- between turns; what holds of every plant, as how long its budget may be, is not said again
pub record IsSound (s : PlantState) : Type 0 where
  pub held : IsHeldSound s
  pub no_trap_runs : s.in_trap ≡ false
  pub served : IsServedBefore (records_held s) (now_of s).trap
  pub terminals : AreTerminalsSound s s.steps
  pub budget : s.steps ≤ s.shape.budget
  pub in_user : s.in_user ≡ true → (slot : ℕ) × (process : ProcRec) × IsRunning s slot process

-- Inside a trap, until the commit that ends it. Terminals have the bytes of so many steps: of a trap that is a step its
-- own are still to come.
pub record IsInTrap (s : PlantState) (steps : ℕ) : Type 0 where
  pub held : IsHeldSound s
  pub a_trap_runs : s.in_trap ≡ true
  pub in_kernel : s.in_user ≡ false
  pub served : IsServedBefore (records_held s) s.traps
  pub fits : s.traps < 2 ^ 32 - 1
  pub counted : steps ≤ s.steps
  pub terminals : AreTerminalsSound s steps
  pub budget : s.steps ≤ s.shape.budget
