use Rattle.ow_plant.proofs.Exact.{over_come, over_in}
use Rattle.ow_plant.proofs.laws.entered_panics_are_over.Goals as goal

pub returns-clause-of_trap : goal.returns-clause-of_trap
returns-clause-of_trap c = over_in

pub returns-clause-before : goal.returns-clause-before
returns-clause-before c = over_come
