use Rattle.std.proofs.Common.{refl}
use Rattle.panic_rows.proofs.Worked.{rows}
use Rattle.panic_rows.proofs.rows.fates_are_told.Goals as goal

pub returns-clause-told : goal.returns-clause-told
unfolding rows
returns-clause-told c = refl

pub returns-clause-exits : goal.returns-clause-exits
unfolding rows
returns-clause-exits c = (refl, refl, refl, refl)

pub returns-clause-ended : goal.returns-clause-ended
unfolding rows
returns-clause-ended c = (refl, refl, refl)

pub returns-clause-terminals : goal.returns-clause-terminals
unfolding rows
returns-clause-terminals c = (refl, refl)

pub returns-clause-closed : goal.returns-clause-closed
unfolding rows
returns-clause-closed c = (refl, refl, refl)

pub returns-clause-lost : goal.returns-clause-lost
unfolding rows
returns-clause-lost c = (refl, refl)

pub returns-clause-banks : goal.returns-clause-banks
unfolding rows
returns-clause-banks c = (refl, refl, refl)

pub returns-clause-kept : goal.returns-clause-kept
unfolding rows
returns-clause-kept c = (refl, refl)

pub returns-clause-running : goal.returns-clause-running
unfolding rows
returns-clause-running c = (refl, refl)

pub returns-clause-entered : goal.returns-clause-entered
unfolding rows
returns-clause-entered c = (refl, refl)
