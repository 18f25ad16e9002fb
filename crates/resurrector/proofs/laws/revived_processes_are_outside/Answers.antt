use Rattle.resurrector.proofs.Outside.{all_outside}
use Rattle.resurrector.proofs.laws.revived_processes_are_outside.Goals as goal

pub returns : goal.returns
returns c = all_outside
