use Rattle.ow_plant.proofs.Armed.{IsArmed-panicked}
use Rattle.machine_tests.proofs.Stores.{armed_after_leave}
use Rattle.machine_tests.proofs.ow_plant_tests.panicked.Goals as goal

pub returns-clause-armed : goal.returns-clause-armed
returns-clause-armed c = IsArmed-panicked _ _ c.panic_entry.ensures (armed_after_leave c.leave.result _ _ c.requires.armed c.leave.ensures.ok c.leave.ensures.err)
