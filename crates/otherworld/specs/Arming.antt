-- A plant that is armed for a world, with the points of its panics.
use Rattle.std.specs.Prelude.{◌≡◌, length, []}
use Rattle.ow_base.specs.declared.worlds.PanicLine.{PanicLine}
use Rattle.ow_base.specs.declared.worlds.Point.{Point}
use Rattle.ow_base.specs.declared.worlds.World.{World}
use Rattle.ow_plant.specs.State.{IsReady, PlantState}
use Rattle.schedule_runner.specs.Histories.{AreFresh, lines_of}
use Rattle.world_file.specs.RunLog.{RunFates, no_fates}

-- the point of a panic in which nothing is damaged and no store is refused again
abbrev pub point_of : PanicLine → Point
point_of panic = record { trap = panic.trap; store = panic.store; damages = record { items = [] }; agains = record { items = [] } }

-- A plant is armed with the shape of a world and, one for each of its panics, with points that name the trap and the store
-- of it. The log of the run has room for all of them, and tells of none yet.
pub record IsArmedFor (world : World) (log : RunFates) (plant : PlantState) : Type 0 where
  pub ready : IsReady world.load.shape plant
  pub fresh : AreFresh plant.points
  pub points : lines_of plant.points ≡ world.panics
  pub none_told : log ≡ no_fates (length world.panics)
