use Rattle.resurrector.proofs.LeftRevivals.{built_unix}
use Rattle.resurrector.proofs.RebuiltUnix.{unix_same}
use Rattle.resurrector.proofs.abort_laws.revived_kernels_are_of_abort.Goals as goal

pub returns-clause-read : goal.returns-clause-read
returns-clause-read c = λ i h most trap steps traps counts next next_words sound is. unix_same i most trap sound h steps traps counts next next_words is

pub returns-clause-built : goal.returns-clause-built
returns-clause-built c = λ dead words tapes h handed most trap steps traps sound map old new few as_many built.
    built_unix dead words tapes h handed most trap steps traps sound map old new few as_many built
