use Rattle.std.proofs.Common.{refl}
use Rattle.panic_rows.proofs.Worked.{rows}
use Rattle.panic_rows.proofs.rows.retries_are_told.Goals as goal

pub returns-clause-panics : goal.returns-clause-panics
unfolding rows
returns-clause-panics c = refl

pub returns-clause-unused : goal.returns-clause-unused
unfolding rows
returns-clause-unused c = refl
