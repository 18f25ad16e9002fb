use Rattle.std.proofs.Common.{refl}
use Rattle.panic_rows.proofs.Worked.{rows, exit_first_run, exit_leave_run}
use Rattle.panic_rows.proofs.rows.exit_panic_runs.Goals as goal

pub returns-clause-first_run : goal.returns-clause-first_run
returns-clause-first_run c = exit_first_run

pub returns-clause-last_run : goal.returns-clause-last_run
returns-clause-last_run c = exit_leave_run

pub returns-clause-first : goal.returns-clause-first
unfolding rows
returns-clause-first c = (refl, refl, refl)

pub returns-clause-first_report : goal.returns-clause-first_report
unfolding rows
returns-clause-first_report c = refl

pub returns-clause-last : goal.returns-clause-last
unfolding rows
returns-clause-last c = (refl, refl, refl)

pub returns-clause-last_report : goal.returns-clause-last_report
unfolding rows
returns-clause-last_report c = refl
