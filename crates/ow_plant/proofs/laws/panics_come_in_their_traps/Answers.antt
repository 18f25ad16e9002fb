use Rattle.ow_plant.proofs.Exact.{missed_is_come, none_come_next}
use Rattle.ow_plant.proofs.laws.panics_come_in_their_traps.Goals as goal

pub returns-clause-missed : goal.returns-clause-missed
returns-clause-missed c = missed_is_come

pub returns-clause-next : goal.returns-clause-next
returns-clause-next c = none_come_next
