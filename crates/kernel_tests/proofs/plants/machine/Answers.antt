use Rattle.std.proofs.Common.{arith}
use Rattle.ow_plant.proofs.Armed.{IsArmed-ready}
use Rattle.kernel_tests.proofs.plants.machine.Goals as goal

pub returns-clause-armed : goal.returns-clause-armed
returns-clause-armed c = IsArmed-ready _ _ (omega arith) c.in_ok-arm.ensures.ok
