use Rattle.record_layouts.proofs.Surviving.{fate_in_is, fates_rise}
use Rattle.record_layouts.proofs.panic_laws.live_processes_have_fates.Goals as goal

pub returns-clause-order : goal.returns-clause-order
returns-clause-order c = fates_rise

pub returns-clause-one : goal.returns-clause-one
returns-clause-one c = fate_in_is
