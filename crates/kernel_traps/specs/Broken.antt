-- What a panic leaves of a trap that it broke.
use Rattle.std.specs.Prelude.{◌≡◌, ◌+◌, ◌≤◌, true, Some}
use Rattle.dead_reader.specs.Left.{told_by}
use Rattle.ow_plant.specs.Images.{AreFronts, image_of}
use Rattle.ow_plant.specs.State.{IsArmed, PlantState, handed_over, is_refused}
use Rattle.ow_plant.specs.declared.refusal.Refusal.TheVariants as refusal
use Rattle.record_layouts.specs.declared.traps.Trap.{Trap}
use Rattle.record_layouts.specs.LeftImages.{unix_left}
use Rattle.record_layouts.specs.SoundImages.{IsSoundAtPanic}
use Rattle.record_layouts.specs.Unix.Broken.{IsBrokenFrom, begun_from, done_of, undone_of}
use Rattle.record_layouts.specs.Unix.Choice.{no_keys}
use Rattle.record_layouts.specs.Unix.State.{Unix}
use Rattle.record_layouts.specs.Unix.Traps.{or_zero, pid_of, steps_in, trap_of_turn}
use Rattle.kernel_traps.specs.Plants.{unix_at}
use Rattle.kernel_traps.specs.Turning.{IsSameMachine, IsSomeLive}

-- the state of the Unix that memory stands for, with what would be handed over by a panic now
abbrev pub unix_left_at : PlantState → Unix
unix_left_at s = unix_left (image_of s) (told_by (handed_over s)) s.steps s.traps

-- A store of a trap that begins from a state, or its end, was refused. What is left stands for a state that a broken trap
-- may leave: the one of before where no store was made, and the one after the trap where its end was refused, which comes
-- behind a store. All of it is sound at a panic.
pub record IsLeftFrom (before : Unix) (s : PlantState) (t : Trap) (new : PlantState) : Type 0 where
  pub broken : IsBrokenFrom t before (unix_left_at new)
  pub unstored : new.stores ≡ 0 → unix_left_at new ≡ undone_of t before
  pub over : new.refusal ≡ Some refusal.Leave → (1 ≤ new.stores) × (unix_left_at new ≡ done_of t before)
  pub sound : IsSoundAtPanic (image_of new) new.steps new.traps
  pub refused : is_refused new ≡ true
  pub armed : IsArmed new
  pub pid : new.trap_pid ≡ or_zero (pid_of t)
  pub few_pids : new.trap_pid ≤ 256
  pub steps : new.steps ≡ s.steps + steps_in t
  pub traps : new.traps ≡ s.traps + 1
  pub budget : new.steps ≤ new.shape.budget
  pub tapes : AreFronts s new
  pub same : IsSameMachine s new

-- the same of a trap that comes on a plant, which is settled first
abbrev pub IsLeftOfTrap : (s : PlantState) → Trap → (new : PlantState) → Type 0
IsLeftOfTrap s t new = IsLeftFrom (begun_from no_keys (unix_at s) t) s t new

-- and of a turn, which then is a trap
abbrev pub IsLeftOfTurn : (s new : PlantState) → Type 0
IsLeftOfTurn s new = IsSomeLive s × (t : Trap) × (trap_of_turn no_keys s.shape (unix_at s) ≡ Some t) × IsLeftOfTrap s t new
