use Rattle.std.proofs.Common.{refl}
use Rattle.panic_rows.proofs.Worked.{rows, hi_mid_run}
use Rattle.panic_rows.proofs.rows.partial_writes_run.Goals as goal

pub returns-clause-run : goal.returns-clause-run
returns-clause-run c = hi_mid_run

pub returns-clause-report : goal.returns-clause-report
unfolding rows
returns-clause-report c = refl

pub returns-clause-tapes : goal.returns-clause-tapes
unfolding rows
returns-clause-tapes c = (refl, refl, refl, refl)

pub returns-clause-told : goal.returns-clause-told
unfolding rows
returns-clause-told c = refl

pub returns-clause-scrolled : goal.returns-clause-scrolled
unfolding rows
returns-clause-scrolled c = (refl, refl, refl, refl, refl)
