-- A panic that is served.
use Rattle.std.specs.Prelude.{◌≡◌, false}
use Rattle.dead_reader.specs.Left.{told_by}
use Rattle.ow_plant.specs.Images.{AreFronts}
use Rattle.ow_plant.specs.State.{EntersPanic, PlantState, handed_over}
use Rattle.kernel_traps.specs.Plants.{IsSound, unix_at}
use Rattle.world_file.specs.RunLog.{RunFates, with_entry}
use Rattle.schedule_runner.specs.Revivals.{fates_aborted, unix_aborted}

-- The panic was entered, and of what it left a kernel was revived that stands for what Abort leaves. The log has the fates
-- by Abort.
pub record IsServed (old new : PlantState) (before after : RunFates) : Type 0 where
  pub entered : PlantState
  pub enters : EntersPanic old entered
  pub sound : IsSound new
  pub unix : unix_at new ≡ unix_aborted entered (told_by (handed_over old))
  pub told : after ≡ with_entry before (fates_aborted entered (told_by (handed_over old)))
  pub tapes : AreFronts entered new
  pub shape : new.shape ≡ entered.shape
  pub points : new.points ≡ entered.points
  pub history : new.history ≡ entered.history
  pub steps : new.steps ≡ entered.steps
  pub traps : new.traps ≡ entered.traps
  pub runs : new.reviving ≡ false
