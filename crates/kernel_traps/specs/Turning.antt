-- What a turn makes of a plant.
use Rattle.std.specs.Prelude.{◌≡◌, ◌+◌, true, false}
use Rattle.record_layouts.specs.Unix.Choice.{has_live_process}
use Rattle.record_layouts.specs.Unix.Turn.{turn}
use Rattle.ow_plant.specs.State.{PlantState}
use Rattle.kernel_traps.specs.Plants.{IsSound, unix_at}
use Rattle.kernel_traps.specs.declared.turns.Turn.{Turn}
use Rattle.kernel_traps.specs.declared.turns.Turn.TheVariants as turns

-- what no turn changes
pub record IsSameMachine (old new : PlantState) : Type 0 where
  pub shape : new.shape ≡ old.shape
  pub points : new.points ≡ old.points
  pub live : new.live ≡ old.live
  pub history : new.history ≡ old.history
  pub reviving : new.reviving ≡ old.reviving

-- a process is live
abbrev pub IsSomeLive : PlantState → Type 0
IsSomeLive s = has_live_process (unix_at s) ≡ true

-- a turn is made: the plant is sound again and stands for the state after the turn
pub record IsTurned (old new : PlantState) : Type 0 where
  pub sound : IsSound new
  pub turn : unix_at new ≡ turn old.shape (unix_at old)
  pub steps : new.steps ≡ old.steps + 1
  pub same : IsSameMachine old new

-- no process is live
abbrev pub AllHaveEnded : PlantState → Type 0
AllHaveEnded s = has_live_process (unix_at s) ≡ false

-- what a turn answers: an instruction is no trap, and where no process is live nothing is done
abbrev pub IsTurn : PlantState → PlantState → Turn → Type 0
IsTurn old new turns.Step = IsTurned old new × (new.traps ≡ old.traps)
IsTurn old new turns.Trap = IsTurned old new × (new.traps ≡ old.traps + 1)
IsTurn old new turns.AllEnded = AllHaveEnded old × (new ≡ old)
