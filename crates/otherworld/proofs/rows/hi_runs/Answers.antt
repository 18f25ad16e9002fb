-- Computed by `refl`, or by the lemmas on the worked worlds.
use Rattle.std.proofs.Common.{refl}
use Rattle.otherworld.proofs.Worked.{rows, hi_run, hi_steps, hi_traps, hi_reports}
use Rattle.otherworld.proofs.rows.hi_runs.Goals as goal

pub returns-clause-ends : goal.returns-clause-ends
unfolding rows
returns-clause-ends c = refl

pub returns-clause-run : goal.returns-clause-run
returns-clause-run c images = hi_run images

pub returns-clause-counts : goal.returns-clause-counts
returns-clause-counts c = (hi_steps, hi_traps)

pub returns-clause-code : goal.returns-clause-code
unfolding rows
returns-clause-code c = refl

pub returns-clause-tape : goal.returns-clause-tape
unfolding rows
returns-clause-tape c = refl

pub returns-clause-report : goal.returns-clause-report
returns-clause-report c = hi_reports
