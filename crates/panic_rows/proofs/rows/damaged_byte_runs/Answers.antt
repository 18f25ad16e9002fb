use Rattle.std.proofs.Common.{refl}
use Rattle.panic_rows.proofs.Worked.{rows, hurt_run}
use Rattle.panic_rows.proofs.rows.damaged_byte_runs.Goals as goal

pub returns-clause-run : goal.returns-clause-run
returns-clause-run c = hurt_run

pub returns-clause-report : goal.returns-clause-report
unfolding rows
returns-clause-report c = refl
