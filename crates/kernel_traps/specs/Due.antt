-- Which trap is due on a plant, and what a turn is by it.
use Rattle.std.specs.Prelude.{◌≡◌, ℕ, ◌⊎◌, false, Some}
use Rattle.record_layouts.specs.declared.traps.Trap.{Trap}
use Rattle.record_layouts.specs.Unix.Choice.{no_keys, settled}
use Rattle.record_layouts.specs.Unix.Traps.{steps_in, trap_at, trap_of_turn}
use Rattle.record_layouts.specs.Unix.State.{AtUser}
use Rattle.ow_plant.specs.State.{PlantState}
use Rattle.kernel_traps.specs.Plants.{IsSound, unix_at}
use Rattle.kernel_traps.specs.Traps.{IsDue}
use Rattle.kernel_traps.specs.Turning.{AllHaveEnded, IsSameMachine, IsSomeLive, IsTurned}
use Rattle.kernel_traps.specs.User.{IsReturned, IsStepped}
use Rattle.kernel_traps.specs.declared.turns.Next.{Next}
use Rattle.kernel_traps.specs.declared.turns.Next.TheVariants as next

-- A plant is settled: it is the plant before, or control has returned to the process of a slot. It stands for the settled
-- state.
pub record IsSettled (old at : PlantState) : Type 0 where
  pub how : (at ≡ old) ⊎ ((old.in_user ≡ false) × ((slot : ℕ) × IsReturned old slot at))
  pub sound : IsSound at
  pub unix : unix_at at ≡ settled no_keys (unix_at old)
  pub live : IsSomeLive old
  pub steps : at.steps ≡ old.steps
  pub traps : at.traps ≡ old.traps
  pub same : IsSameMachine old at

-- this trap is the turn of a plant, which is settled: it is no closing one, and may come
pub record IsTrapNext (old at : PlantState) (t : Trap) : Type 0 where
  pub settled : IsSettled old at
  pub trap : trap_of_turn no_keys old.shape (unix_at old) ≡ Some t
  pub step : steps_in t ≡ 1
  pub due : IsDue at t

-- the turn of a plant: an instruction is made, this trap is next, or no process is live
abbrev pub IsNextTurn : (old at : PlantState) → Next → Type 0
IsNextTurn old at next.Step = IsSomeLive old × IsTurned old at × (at.traps ≡ old.traps)
IsNextTurn old at (next.Trap t) = IsTrapNext old at t
IsNextTurn old at next.AllEnded = AllHaveEnded old × (at ≡ old)

-- and of one in user mode
abbrev pub IsNextInUser : (old at : PlantState) → Next → Type 0
IsNextInUser old at next.Step = IsStepped old at
IsNextInUser old at (next.Trap t) =
    (at ≡ old) × (trap_at no_keys old.shape.quantum (unix_at old) (AtUser old.user_pid old.slice) ≡ Some t) × (steps_in t ≡ 1) × IsDue old t
IsNextInUser old at next.AllEnded = ⊥
