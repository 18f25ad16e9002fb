use Rattle.std.proofs.Common.{◌∙◌}
use Rattle.process_table.proofs.Chosen.{chosen_is, none_chosen, any_live_is}
use Rattle.process_table.proofs.laws.choices_agree.Goals as goal

pub returns-clause-work : goal.returns-clause-work
returns-clause-work c r words tapes steps traps now slot choice sound is =
    chosen_is r words tapes steps traps now slot is.process sound is.chosen is.there

pub returns-clause-rest : goal.returns-clause-rest
returns-clause-rest c r words tapes steps traps now any sound is = none_chosen r words tapes steps traps now sound is.0

pub returns-clause-live : goal.returns-clause-live
returns-clause-live c r words tapes steps traps now any sound is = any_live_is r words tapes steps traps sound ∙ is.1
