use Rattle.std.proofs.Common.{arith}
use Rattle.ow_plant.proofs.Room.{plant_entered}
use Rattle.ow_plant.proofs.machine.Plant.enter.Goals as goal

pub invariant_of-self : goal.invariant_of-self
invariant_of-self c = rw (c.begin_count.ensures, c.saturating_add-self-inside.ensures) (plant_entered _ _ _ _ _ _ _ _ _ c.self.invariant (omega arith))

pub invariant_of-self-in-Kernel : goal.invariant_of-self-in-Kernel
invariant_of-self-in-Kernel c = rw (c.begin_count.ensures, c.saturating_add-self-inside.ensures) (plant_entered _ _ _ _ _ _ _ _ _ c.self.invariant (omega arith))
