use Rattle.resurrector.proofs.LeftRevivals.{told_fates}
use Rattle.resurrector.proofs.abort_laws.told_fates_are_of_abort.Goals as goal

pub returns : goal.returns
returns c = told_fates
