use Rattle.record_layouts.proofs.Surviving.{repeated}
use Rattle.record_layouts.proofs.panic_laws.closing_traps_are_repeated.Goals as goal

pub returns : goal.returns
returns c = repeated
