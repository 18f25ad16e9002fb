use Rattle.std.proofs.Common.{refl}
use Rattle.panic_rows.proofs.Worked.{rows}
use Rattle.panic_rows.proofs.rows.calls_are_told.Goals as goal

pub returns-clause-again : goal.returns-clause-again
unfolding rows
returns-clause-again c = (refl, refl, refl, refl)

pub returns-clause-aborted : goal.returns-clause-aborted
unfolding rows
returns-clause-aborted c = (refl, refl, refl)

pub returns-clause-procedures : goal.returns-clause-procedures
unfolding rows
returns-clause-procedures c = (refl, refl)

pub returns-clause-saves : goal.returns-clause-saves
unfolding rows
returns-clause-saves c = (refl, refl)

pub returns-clause-banks : goal.returns-clause-banks
unfolding rows
returns-clause-banks c = (refl, refl, refl)
