-- A trap on a plant: when it may come, what it asks for, what it makes of the plant, and what a refusal may leave of it.
use Rattle.ow_plant.specs.Points.{is_in}
use Rattle.std.specs.List.{list_any}
use Rattle.std.specs.Prelude.{◌≡◌, ℕ, ◌+◌, ◌≤◌, true, false, List, [], ◌∷◌, Option, Some, None, Result, Ok}
use Rattle.phys_memory.specs.Memory.{words_of}
use Rattle.record_layouts.specs.declared.head.HeadRec.{HeadRec}
use Rattle.record_layouts.specs.declared.proc.ProcRec.{ProcRec}
use Rattle.record_layouts.specs.declared.sig.SigRec.{SigRec}
use Rattle.record_layouts.specs.declared.patch.PatchItem.{PatchItem}
use Rattle.record_layouts.specs.declared.traps.Trap.{Trap}
use Rattle.record_layouts.specs.declared.traps.Trap.TheVariants as trap
use Rattle.record_layouts.specs.Held.{Records}
use Rattle.record_layouts.specs.Sound.{IsIn}
use Rattle.record_layouts.specs.Spelling.{IsStatus}
use Rattle.record_layouts.specs.Unix.Traps.{came_of, or_zero, pid_of, steps_in}
use Rattle.record_layouts.specs.Unix.State.{Process, Unix}
use Rattle.process_table.specs.Choosing.{signal_by}
use Rattle.process_table.specs.Patches.{ended_items, head_item, saved_items, signal_items}
use Rattle.syscalls.specs.Planned.{Planned, PlanOnce, planned_call, planned_piece}
use Rattle.ow_plant.specs.State.{PlantState, entered, now_of, risen}
use Rattle.intent_store.specs.Live.{records_held}
use Rattle.kernel_traps.specs.Plants.{IsSound, unix_at}
use Rattle.kernel_traps.specs.Ending.{MayBeLeftOfPlan}
use Rattle.kernel_traps.specs.Turning.{IsSameMachine}
use Rattle.kernel_traps.specs.declared.turns.Turn.{Turn}
use Rattle.kernel_traps.specs.declared.turns.Turn.TheVariants as turns

-- A trap is made: the plant is sound again and stands for this state, and so many steps more are made.
pub record IsTrapMade (old new : PlantState) (after : Unix) (made : ℕ) : Type 0 where
  pub sound : IsSound new
  pub unix : unix_at new ≡ after
  pub steps : new.steps ≡ old.steps + made
  pub traps : new.traps ≡ old.traps + 1
  pub same : IsSameMachine old new

-- a panic is to come in the next trap: only then a store of it, or its end, is refused
abbrev pub IsPanicNext : PlantState → Type 0
IsPanicNext s = list_any (is_in (risen s.traps)) s.points ≡ true

-- no panic is to come in it
abbrev pub IsNoPanicNext : PlantState → Type 0
IsNoPanicNext s = list_any (is_in (risen s.traps)) s.points ≡ false

-- a trap that was made had none
abbrev pub HasPassed : PlantState → Turn → Type 0
HasPassed old turns.Trap = IsNoPanicNext old
HasPassed old turns.Step = Unit {0}
HasPassed old turns.AllEnded = Unit {0}

-- the answer where no process is live
abbrev pub IsAllEnded : {E : Type 0} → Result Turn E → Type 0
IsAllEnded (Ok turns.AllEnded) = Unit {0}
IsAllEnded other = ⊥

-- the process with a pid is live, and this one
abbrev pub IsLiveAs : PlantState → (pid : ℕ) → Process → Type 0
IsLiveAs s pid p = (unix_at s).processes pid ≡ Some p

-- the slot of a trap: the process that has it is live there; where none has it, it is 0
abbrev pub IsSlotOf : Records → Option ℕ → (slot : ℕ) → ProcRec → Type 0
IsSlotOf r (Some pid) slot process = IsIn r slot process × (process.pid ≡ pid)
IsSlotOf r None slot process = (slot ≡ 0) × (r.procs slot ≡ Some process)

-- what a trap asks of its process: 1 is outside a call, and 2 in one
abbrev pub Suits : Records → Trap → (slot : ℕ) → ProcRec → Type 0
Suits r (trap.Entry pid) slot process = process.state ≡ 1
Suits r (trap.Piece pid) slot process = process.state ≡ 2
Suits r (trap.Fault pid cause) slot process = (process.state ≡ 1) × IsStatus (0x200 + cause)
Suits r (trap.Slice pid) slot process = process.state ≡ 1
Suits r (trap.Signal pid signal) slot process = signal_by process (r.sigs slot) ≡ Some signal
Suits r trap.Idle slot process = Unit {0}
Suits r (trap.Closing (Some pid)) slot process = process.state ≡ 1
Suits r (trap.Closing None) slot process = Unit {0}

-- the records have a process for a trap
pub record CanHave (r : Records) (t : Trap) (slot : ℕ) (process : ProcRec) : Type 0 where
  pub seat : IsSlotOf r (pid_of t) slot process
  pub suits : Suits r t slot process

abbrev pub IsHad : Records → Trap → (slot : ℕ) → Type 0
IsHad r t slot = (process : ProcRec) × CanHave r t slot process

-- the process that is in user mode as a trap comes, if one is
abbrev pub user_before : Trap → Option ℕ
user_before (trap.Entry pid) = Some pid
user_before (trap.Piece pid) = None
user_before (trap.Fault pid cause) = Some pid
user_before (trap.Slice pid) = Some pid
user_before (trap.Signal pid signal) = None
user_before trap.Idle = None
user_before (trap.Closing pid) = pid

abbrev pub IsInMode : PlantState → Option ℕ → Type 0
IsInMode s (Some pid) = (s.in_user ≡ true) × (s.user_pid ≡ pid)
IsInMode s None = s.in_user ≡ false

-- a trap may come
pub record IsDue (s : PlantState) (t : Trap) : Type 0 where
  pub mode : IsInMode s (user_before t)
  pub slot : ℕ
  pub had : IsHad (records_held s) t slot

-- it is one step more, unless it is the closing one, and is within the budget
abbrev pub IsWithin : PlantState → Trap → Type 0
IsWithin s t = s.steps + steps_in t ≤ s.shape.budget

-- the plant once a trap has begun
abbrev pub begun_by : PlantState → Trap → PlantState
begun_by s t = entered s (came_of t) (or_zero (pid_of t))

-- a trap in which the head alone changes: it is served
abbrev pub served_items : HeadRec → (trap : ℕ) → List PatchItem
served_items head trap = head_item head trap head.last ∷ []

-- the records of a signal, by those of the process's signals
abbrev pub signal_items_by : HeadRec → (slot : ℕ) → ProcRec → Option SigRec → (signal trap : ℕ) → List PatchItem
signal_items_by head slot process (Some signals) signal trap = signal_items head slot process signals signal trap
signal_items_by head slot process None signal trap = served_items head trap

-- The plan of each trap, by the head and the process of its slot: a call or a further piece, a process that ends or of
-- which the bank is saved, a signal that is taken; and of a trap that no process has the head alone.
abbrev pub plan_for : PlantState → Trap → (slot : ℕ) → HeadRec → ProcRec → Planned
plan_for s (trap.Entry pid) slot head process = planned_call (records_held s) (words_of s.memory) slot (now_of s).trap head process s.bank
plan_for s (trap.Piece pid) slot head process = planned_piece (records_held s) (words_of s.memory) slot (now_of s).trap head process
plan_for s (trap.Fault pid cause) slot head process = PlanOnce (ended_items head slot process (0x200 + cause) (now_of s).trap)
plan_for s (trap.Slice pid) slot head process = PlanOnce (saved_items head slot process s.bank (now_of s).trap)
plan_for s (trap.Signal pid signal) slot head process = PlanOnce (signal_items_by head slot process ((records_held s).sigs slot) signal (now_of s).trap)
plan_for s trap.Idle slot head process = PlanOnce (served_items head (now_of s).trap)
plan_for s (trap.Closing (Some pid)) slot head process = PlanOnce (saved_items head slot process s.bank (now_of s).trap)
plan_for s (trap.Closing None) slot head process = PlanOnce (served_items head (now_of s).trap)

-- this is the plan of a trap that has begun, and this its slot
pub record IsPlanOf (s : PlantState) (t : Trap) (slot : ℕ) (plan : Planned) : Type 0 where
  pub head : HeadRec
  pub process : ProcRec
  pub is_head : (records_held s).head ≡ Some head
  pub has : CanHave (records_held s) t slot process
  pub planned : plan ≡ plan_for s t slot head process

-- what a refusal may leave of a trap
abbrev pub MayBeLeftOfTrap : PlantState → Trap → PlantState → Type 0
MayBeLeftOfTrap s t new =
    (slot : ℕ) × (plan : Planned) × IsPlanOf (begun_by s t) t slot plan × MayBeLeftOfPlan (begun_by s t) slot plan new
