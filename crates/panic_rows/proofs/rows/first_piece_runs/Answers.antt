use Rattle.std.proofs.Common.{refl}
use Rattle.panic_rows.proofs.Worked.{rows, scroll_leave_run}
use Rattle.panic_rows.proofs.rows.first_piece_runs.Goals as goal

pub returns-clause-run : goal.returns-clause-run
returns-clause-run c = scroll_leave_run

pub returns-clause-report : goal.returns-clause-report
unfolding rows
returns-clause-report c = refl
