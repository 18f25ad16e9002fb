-- Run: the turns of a world, one after the other, until it ends.
use Rattle.std.specs.Prelude.{◌≡◌, List, [], Some, None}
use Rattle.record_layouts.specs.Unix.State.{Unix, start_of}
use Rattle.record_layouts.specs.Unix.Turn.{turn, ending_of, closed}
use Rattle.ow_base.specs.declared.machine.Shape.{Shape}
use Rattle.ow_base.specs.declared.worlds.World.{World}
use Rattle.ow_base.specs.declared.worlds.Ending.{Ending}
use Rattle.ow_base.specs.declared.worlds.PanicRecord.{PanicRecord}

-- from a state, with a history of panics, a run ends so and leaves this state
pub data RunsFrom (shape : Shape) : Unix → List PanicRecord → Ending → Unix → Type 0 where
  ends : (u : Unix) (ending : Ending) → ending_of shape u ≡ Some ending → RunsFrom shape u [] ending (closed u)
  goes_on : (u : Unix) (history : List PanicRecord) (ending : Ending) (w : Unix) → ending_of shape u ≡ None →
      RunsFrom shape (turn shape u) history ending w → RunsFrom shape u history ending w

-- Run
abbrev pub Run : World → List PanicRecord → Ending → Unix → Type 0
Run world history ending w = RunsFrom world.load.shape (start_of world.load) history ending w
