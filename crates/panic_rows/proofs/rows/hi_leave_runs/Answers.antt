use Rattle.std.proofs.Common.{refl}
use Rattle.panic_rows.proofs.Worked.{rows, hi_leave_run}
use Rattle.panic_rows.proofs.rows.hi_leave_runs.Goals as goal

pub returns-clause-run : goal.returns-clause-run
returns-clause-run c = hi_leave_run

pub returns-clause-counts : goal.returns-clause-counts
unfolding rows
returns-clause-counts c = (refl, refl, refl, refl)

pub returns-clause-report : goal.returns-clause-report
unfolding rows
returns-clause-report c = refl
