-- Computed by `refl`, or by the lemmas on the worked worlds.
use Rattle.std.proofs.Common.{refl}
use Rattle.otherworld.proofs.Worked.{rows, three_hi_run, three_hi_reports}
use Rattle.otherworld.proofs.rows.three_hi_runs.Goals as goal

pub returns-clause-run : goal.returns-clause-run
returns-clause-run c images = three_hi_run images

pub returns-clause-counts : goal.returns-clause-counts
unfolding rows
returns-clause-counts c = (refl, refl)

pub returns-clause-report : goal.returns-clause-report
returns-clause-report c = three_hi_reports
