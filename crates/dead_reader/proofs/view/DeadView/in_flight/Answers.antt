use Rattle.dead_reader.proofs.view.DeadView.in_flight.Goals as goal

pub returns-clause-none : goal.returns-clause-none
returns-clause-none g c = rw (← c.count.ensures) c.in_flight.ensures.none
