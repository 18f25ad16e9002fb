use Rattle.record_layouts.proofs.Turning.{closed_is, closing_is, next_is, turn_is}
use Rattle.record_layouts.proofs.traps.turns_are_traps.Goals as goal

pub returns-clause-turn : goal.returns-clause-turn
returns-clause-turn c = turn_is

pub returns-clause-next : goal.returns-clause-next
returns-clause-next c = next_is

pub returns-clause-closing : goal.returns-clause-closing
returns-clause-closing c = closing_is

pub returns-clause-closed : goal.returns-clause-closed
returns-clause-closed c = closed_is
