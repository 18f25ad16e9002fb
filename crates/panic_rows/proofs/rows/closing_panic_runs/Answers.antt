use Rattle.std.proofs.Common.{refl}
use Rattle.panic_rows.proofs.Worked.{rows, exit_closing_run, exit_unused_run, loop_at_once_run, loop_closing_run, loop_twice_run}
use Rattle.panic_rows.proofs.rows.closing_panic_runs.Goals as goal

pub returns-clause-none_run : goal.returns-clause-none_run
returns-clause-none_run c = exit_closing_run

pub returns-clause-none : goal.returns-clause-none
unfolding rows
returns-clause-none c = (refl, refl)

pub returns-clause-none_report : goal.returns-clause-none_report
unfolding rows
returns-clause-none_report c = refl

pub returns-clause-unused_run : goal.returns-clause-unused_run
returns-clause-unused_run c = exit_unused_run

pub returns-clause-unused_report : goal.returns-clause-unused_report
unfolding rows
returns-clause-unused_report c = refl

pub returns-clause-user_run : goal.returns-clause-user_run
returns-clause-user_run c = loop_closing_run

pub returns-clause-user : goal.returns-clause-user
unfolding rows
returns-clause-user c = (refl, refl)

pub returns-clause-user_report : goal.returns-clause-user_report
unfolding rows
returns-clause-user_report c = refl

pub returns-clause-twice_run : goal.returns-clause-twice_run
returns-clause-twice_run c = loop_twice_run

pub returns-clause-twice_report : goal.returns-clause-twice_report
unfolding rows
returns-clause-twice_report c = refl

pub returns-clause-at_once_run : goal.returns-clause-at_once_run
returns-clause-at_once_run c = loop_at_once_run

pub returns-clause-at_once : goal.returns-clause-at_once
unfolding rows
returns-clause-at_once c = (refl, refl)

pub returns-clause-at_once_report : goal.returns-clause-at_once_report
unfolding rows
returns-clause-at_once_report c = refl
