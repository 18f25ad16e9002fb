use Rattle.ow_plant.proofs.Armed.{IsArmed-stored}
use Rattle.machine_tests.proofs.Stores.{armed_after}
use Rattle.machine_tests.proofs.ow_plant_tests.set.Goals as goal

pub returns-in-Some-clause-sized : goal.returns-in-Some-clause-sized
returns-in-Some-clause-sized c = λ is. armed_after c.store.result _ _ _ is (IsArmed-stored _ _ _ _ is) c.store.ensures.ok c.store.ensures.err
