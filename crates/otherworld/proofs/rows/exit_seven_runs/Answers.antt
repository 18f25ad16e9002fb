-- Computed by `refl`, or by the lemmas on the worked worlds.
use Rattle.std.proofs.Common.{refl}
use Rattle.otherworld.proofs.Worked.{rows, exit_seven_run}
use Rattle.otherworld.proofs.rows.exit_seven_runs.Goals as goal

pub returns-clause-goes_on : goal.returns-clause-goes_on
unfolding rows
returns-clause-goes_on c = (refl, refl, refl)

pub returns-clause-ends : goal.returns-clause-ends
unfolding rows
returns-clause-ends c = refl

pub returns-clause-run : goal.returns-clause-run
returns-clause-run c images = exit_seven_run images

pub returns-clause-counts : goal.returns-clause-counts
unfolding rows
returns-clause-counts c = (refl, refl)

pub returns-clause-code : goal.returns-clause-code
unfolding rows
returns-clause-code c = refl

pub returns-clause-report : goal.returns-clause-report
unfolding rows
returns-clause-report c = refl
