use Rattle.std.proofs.Common.{rules}
use Rattle.machine_tests.proofs.Stores.{beside_left}
use Rattle.machine_tests.proofs.ow_plant_tests.revived.Goals as goal

pub returns-clause-dead : goal.returns-clause-dead
returns-clause-dead c =
    beside_left c.args.plant.now c.resurrection-own.result.1.lent.now c.store_each-stored.new.own.lent.now _ c.requires.armed c.requires.area
    c.resurrection-own.ensures.own c.store_each-stored.ensures.length (search rules)
