use Rattle.record_layouts.proofs.Surviving.{untouched, untouched_fate}
use Rattle.record_layouts.proofs.panic_laws.untouched_processes_survive.Goals as goal

pub returns : goal.returns
returns c v x pid p live readable none bytes = (untouched_fate v x pid p live readable none, untouched v x pid p live readable none bytes)
