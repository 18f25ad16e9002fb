use Rattle.std.proofs.Common.{refl}
use Rattle.panic_rows.proofs.Worked.{rows, hi_first_run}
use Rattle.panic_rows.proofs.rows.hi_first_store_runs.Goals as goal

pub returns-clause-run : goal.returns-clause-run
returns-clause-run c = hi_first_run

pub returns-clause-counts : goal.returns-clause-counts
unfolding rows
returns-clause-counts c = (refl, refl, refl, refl)

pub returns-clause-report : goal.returns-clause-report
unfolding rows
returns-clause-report c = refl
