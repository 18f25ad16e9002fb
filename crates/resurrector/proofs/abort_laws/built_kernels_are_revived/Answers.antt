use Rattle.resurrector.proofs.Built.{read_as_revived}
use Rattle.resurrector.proofs.abort_laws.built_kernels_are_revived.Goals as goal

pub returns : goal.returns
returns c = λ r handed counts words map old new few as_many built. read_as_revived r handed counts words map old new few as_many built
