-- User mode: control goes to a process, and what a turn of it makes of a plant.
use Rattle.std.specs.Prelude.{◌≡◌, ℕ, ◌+◌, true, false, nat_lt, Some}
use Rattle.ow_base.specs.UserStep.{Call, Faulted}
use Rattle.record_layouts.specs.declared.proc.ProcRec.{ProcRec}
use Rattle.record_layouts.specs.Unix.Choice.{no_keys}
use Rattle.record_layouts.specs.Pages.{table_frame}
use Rattle.record_layouts.specs.Sound.{IsIn}
use Rattle.record_layouts.specs.Spelling.{IsStatus}
use Rattle.record_layouts.specs.Unix.Turn.{step_of, turn_at}
use Rattle.record_layouts.specs.Unix.State.{Unix, Process, AtUser}
use Rattle.process_table.specs.Patches.{bank_of}
use Rattle.ow_plant.specs.State.{PlantState, returned_to}
use Rattle.ow_plant.specs.declared.UserEnd.{UserEnd}
use Rattle.ow_plant.specs.declared.UserEnd.TheVariants as end
use Rattle.intent_store.specs.Live.{records_held}
use Rattle.kernel_traps.specs.Plants.{IsRunning, IsSound, unix_at}
use Rattle.kernel_traps.specs.Turning.{IsSameMachine}

-- a process outside a call has this slot
pub record IsOutside (s : PlantState) (slot : ℕ) (process : ProcRec) : Type 0 where
  pub there : IsIn (records_held s) slot process
  pub outside : process.state ≡ 1

-- the state in which control has gone to a process
abbrev pub at_process : Unix → (pid : ℕ) → Unix
at_process u pid = record u { position = AtUser pid 0; last_pid = pid }

-- Control has gone to the process in a slot: the processor has its bank and its tables, and nothing else changes. In the
-- Unix the process is in user mode, and is the last one that ran.
pub record IsReturned (old : PlantState) (slot : ℕ) (new : PlantState) : Type 0 where
  pub process : ProcRec
  pub there : IsIn (records_held old) slot process
  pub loaded : new ≡ returned_to old process.pid (bank_of process) ((records_held old).map.area_base + table_frame slot 0)
  pub unix : unix_at new ≡ at_process (unix_at old) process.pid

-- the process that is in user mode: its slot and its record, and what it is in the Unix
pub record IsInUser (s : PlantState) (process : Process) : Type 0 where
  pub slot : ℕ
  pub its : ProcRec
  pub runs : IsRunning s slot its
  pub live : (unix_at s).processes s.user_pid ≡ Some process

-- an instruction is made: the plant is sound and stands for the state after it
pub record IsStepped (old new : PlantState) : Type 0 where
  pub sound : IsSound new
  pub turn : unix_at new ≡ turn_at no_keys old.shape.quantum (unix_at old) (AtUser old.user_pid old.slice)
  pub steps : new.steps ≡ old.steps + 1
  pub traps : new.traps ≡ old.traps
  pub same : IsSameMachine old new

-- what a turn of this process comes to: at the end of its slice, at a call and at a fault nothing is done
abbrev pub IsTurnOf : PlantState → Process → PlantState → UserEnd → Type 0
IsTurnOf old process new end.Next = IsStepped old new
IsTurnOf old process new end.Slice = (new ≡ old) × (nat_lt old.slice old.shape.quantum ≡ false)
IsTurnOf old process new end.Call = (new ≡ old) × (nat_lt old.slice old.shape.quantum ≡ true) × (step_of process ≡ Call)
IsTurnOf old process new (end.Fault fault) =
    (new ≡ old) × (nat_lt old.slice old.shape.quantum ≡ true) × (step_of process ≡ Faulted fault) × IsStatus (0x200 + fault.cause)

-- a turn in user mode
abbrev pub IsUserTurn : PlantState → PlantState → UserEnd → Type 0
IsUserTurn old new result = (process : Process) × IsInUser old process × IsTurnOf old process new result
