use Rattle.tty_screen.proofs.ShownScreens.{draws_all, draws_tape}
use Rattle.tty_screen.proofs.laws.bytes_are_drawn_in_turn.Goals as goal

pub returns-clause-all : goal.returns-clause-all
returns-clause-all c records tty screen bytes patches shows each = draws_all records tty screen bytes patches shows each

pub returns-clause-one : goal.returns-clause-one
returns-clause-one c records tty byte bytes items shows draws = draws_tape records tty byte bytes items shows draws
