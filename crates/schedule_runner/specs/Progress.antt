-- How far a run has come on a plant.
use Rattle.std.specs.Prelude.{◌≡◌, ℕ, ◌+◌, ◌-◌, ◌≤◌, false, nat_le, List, [], ◌∷◌, ◌++◌, length}
use Rattle.ow_base.specs.declared.worlds.Ending.{Ending}
use Rattle.ow_base.specs.declared.worlds.Load.{Load}
use Rattle.ow_base.specs.declared.worlds.PanicRecord.{PanicRecord}
use Rattle.ow_plant.specs.Images.{AreFronts}
use Rattle.ow_plant.specs.Points.{coming}
use Rattle.ow_plant.specs.State.{PlantState}
use Rattle.ow_plant.specs.declared.points.PanicPoint.{PanicPoint}
use Rattle.kernel_traps.specs.Plants.{IsSound, unix_at}
use Rattle.record_layouts.specs.declared.fates.Fate.{Fate}
use Rattle.record_layouts.specs.Unix.Panics.{RunWith, RunsWith}
use Rattle.record_layouts.specs.Unix.State.{Unix}
use Rattle.world_file.specs.RunLog.{RunFates}
use Rattle.schedule_runner.specs.Histories.{images_of, lines_of, world_of}

-- points in the order of their traps, from this one on, of which exactly those were entered whose trap is over
unfoldable pub AreInOrder : (least over : ℕ) → List PanicPoint → Type 0
AreInOrder least over [] = Unit {0}
AreInOrder least over (point ∷ points) =
    (least ≤ point.trap) × (point.entered ≡ nat_le point.trap over) × AreInOrder (point.trap + 1) over points

-- Of a run of this load, on a plant with these points, what holds where it has come to a plant and a log: however it goes
-- on from here, it is a run from the start. Tapes only grow, and the entries of the history are read by those of the end.
pub record HasCome (load : Load) (points : List PanicPoint) (s : PlantState) (log : RunFates) : Type 0 where
  pub sound : IsSound s
  pub shape : s.shape ≡ load.shape
  pub budget : load.shape.budget ≤ 2000000
  pub runs : s.reviving ≡ false
  pub order : AreInOrder 1 s.traps s.points
  pub lines : lines_of s.points ≡ lines_of points
  -- each trap is a step, or its panic is over
  pub few : s.traps + coming s.points ≤ s.steps + 32
  pub room : length log.entries + coming s.points ≤ log.room
  pub so_far : (end : PlantState) → end.shape ≡ load.shape → AreFronts s end
      → (history : List PanicRecord) (told : List (List (ℕ × Fate))) (ending : Ending) (w : Unix)
      → RunsWith (world_of load points) (images_of end) (unix_at s) history told ending w
      → RunWith (world_of load points) (images_of end) (s.history ++ history) (log.entries ++ told) ending w

-- what holds where it has ended
pub record HasEnded (load : Load) (points : List PanicPoint) (ending : Ending) (s : PlantState) (log : RunFates) : Type 0 where
  pub run : RunWith (world_of load points) (images_of s) s.history log.entries ending (unix_at s)
  pub sound : IsSound s
  pub shape : s.shape ≡ load.shape
  pub lines : lines_of s.points ≡ lines_of points

-- how many turns and panics can still come
abbrev pub to_come : PlantState → ℕ
to_come s = s.shape.budget - s.steps + coming s.points
