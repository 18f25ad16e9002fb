-- How a trap ends: what its plan must be, what is so once it is carried out, and what a refusal may leave.
use Rattle.std.specs.Prelude.{◌≡◌, ℕ, ◌<◌, ◌⊎◌, true, Some, is_some}
use Rattle.record_layouts.specs.declared.head.HeadRec.{HeadRec}
use Rattle.record_layouts.specs.declared.proc.ProcRec.{ProcRec}
use Rattle.record_layouts.specs.Held.{Records, with_items}
use Rattle.record_layouts.specs.Pages.{live_one}
use Rattle.process_table.specs.Meaning.{KeepDescriptors}
use Rattle.syscalls.specs.Planned.{Planned, PlanFork, PlanGrow, PlanOnce, PlanPut, PlanWrite, items_in}
use Rattle.syscalls.specs.Serving.{CanCall}
use Rattle.syscalls.specs.Done.{KeepsSound}
use Rattle.ow_plant.specs.declared.refusal.Refusal.TheVariants as refusal
use Rattle.ow_plant.specs.State.{PlantState, left_trap}
use Rattle.intent_store.specs.Live.{held_of}
use Rattle.record_layouts.specs.Sound.{AreInBuiltCalls}
use Rattle.kernel_traps.specs.Carrying.{AreOfProcesses, IsCarriedOut, MayBeLeft}

-- A plan that ends a trap, with the record in its slot: it sets records of the head and of processes alone, records stay sound, live processes keep
-- their descriptors, no process comes into another call than a write or a wait, and the head says that this trap is served.
pub record EndsTrap (r : Records) (slot trap : ℕ) (plan : Planned) : Type 0 where
  pub of_processes : AreOfProcesses (items_in plan)
  pub process : ProcRec
  pub there : r.procs slot ≡ Some process
  pub keeps_sound : KeepsSound r slot process plan
  pub keeps_descriptors : KeepDescriptors r (items_in plan)
  pub in_built_calls : AreInBuiltCalls (with_items r (items_in plan))
  pub head : HeadRec
  pub is_head : (with_items r (items_in plan)).head ≡ Some head
  pub served : head.served ≡ trap

-- bytes of a process can be read where there are some to write, and a process that grows or forks is live
abbrev pub CanBeServed : Records → (slot : ℕ) → Planned → Type 0
CanBeServed r slot (PlanOnce items) = Unit {0}
CanBeServed r slot (PlanWrite tty from len items) = CanCall r slot
CanBeServed r slot (PlanGrow count items) = (slot < 16) × (is_some (live_one (r.procs slot)) ≡ true)
CanBeServed r slot (PlanFork child items) = (slot < 16) × (is_some (live_one (r.procs slot)) ≡ true)
CanBeServed r slot (PlanPut address status items) = slot < 16

-- a plan that writes is of a trap that is a step: the terminals have the bytes of fewer steps
abbrev pub HasStep : Planned → (bytes_of steps : ℕ) → Type 0
HasStep (PlanOnce items) bytes_of steps = Unit {0}
HasStep (PlanWrite tty from len items) bytes_of steps = bytes_of < steps
HasStep (PlanGrow count items) bytes_of steps = Unit {0}
HasStep (PlanFork child items) bytes_of steps = Unit {0}
HasStep (PlanPut address status items) bytes_of steps = Unit {0}

-- the plan is carried out, and the trap has ended
abbrev pub IsEnded : PlantState → (slot : ℕ) → Planned → PlantState → Type 0
IsEnded s slot plan new = (done : PlantState) × IsCarriedOut s slot plan (held_of done) × (new ≡ left_trap done)

-- What a refusal may leave of a trap with a plan: where a store was refused a part of the plan, and where the end of the
-- trap was refused all of it.
abbrev pub MayBeLeftOfPlan : PlantState → (slot : ℕ) → Planned → PlantState → Type 0
MayBeLeftOfPlan s slot plan new =
    ((new.refusal ≡ Some refusal.Store) × MayBeLeft s slot plan (held_of new))
    ⊎ ((new.refusal ≡ Some refusal.Leave) × IsCarriedOut s slot plan (held_of new))
