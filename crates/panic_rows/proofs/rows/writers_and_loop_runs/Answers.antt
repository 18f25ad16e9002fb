use Rattle.std.proofs.Common.{refl}
use Rattle.panic_rows.proofs.Worked.{rows, writers_run}
use Rattle.panic_rows.proofs.rows.writers_and_loop_runs.Goals as goal

pub returns-clause-run : goal.returns-clause-run
returns-clause-run c = writers_run

pub returns-clause-last : goal.returns-clause-last
unfolding rows
returns-clause-last c = (refl, refl, refl)

pub returns-clause-counts : goal.returns-clause-counts
unfolding rows
returns-clause-counts c = (refl, refl)

pub returns-clause-report : goal.returns-clause-report
unfolding rows
returns-clause-report c = refl
