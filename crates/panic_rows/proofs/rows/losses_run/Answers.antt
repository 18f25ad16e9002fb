use Rattle.std.proofs.Common.{refl}
use Rattle.panic_rows.proofs.Worked.{rows, second_run, head_run}
use Rattle.panic_rows.proofs.rows.losses_run.Goals as goal

pub returns-clause-second_run : goal.returns-clause-second_run
returns-clause-second_run c = second_run

pub returns-clause-second_report : goal.returns-clause-second_report
unfolding rows
returns-clause-second_report c = refl

pub returns-clause-head_run : goal.returns-clause-head_run
returns-clause-head_run c = head_run

pub returns-clause-head : goal.returns-clause-head
unfolding rows
returns-clause-head c = (refl, refl)

pub returns-clause-head_report : goal.returns-clause-head_report
unfolding rows
returns-clause-head_report c = refl
