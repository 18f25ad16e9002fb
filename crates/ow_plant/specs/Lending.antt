-- What a plant is when the loans of a resurrection are over.
use Rattle.std.specs.Borrow.{follows, MutBor, Fml}
use Rattle.ow_plant.specs.Lent.{with_lent}
use Rattle.ow_plant.specs.State.{PlantState}
use Rattle.ow_plant.specs.contracts.lent.Lent.{the_row as lent_row}
use Rattle.ow_plant.specs.contracts.machine.Plant.{the_row}
use Rattle.ow_plant.specs.declared.own_half.Own.{Own}

-- the plant is what it was, with what was lent as it was left
abbrev pub LendsOwn : MutBor PlantState → Own → Fml
LendsOwn s own = follows the_row lent_row s.ghost_name own.lent.ghost_name (with_lent s.now)
