use Rattle.record_layouts.proofs.Surviving.{done_same, goes, same}
use Rattle.record_layouts.proofs.panic_laws.outside_goes_on.Goals as goal

pub returns-clause-fate : goal.returns-clause-fate
returns-clause-fate c v pid p live out plain other = goes v pid p live plain out other

pub returns-clause-same : goal.returns-clause-same
returns-clause-same c v pid p live out plain other = same v pid p live plain out other

pub returns-clause-done : goal.returns-clause-done
returns-clause-done c = done_same
