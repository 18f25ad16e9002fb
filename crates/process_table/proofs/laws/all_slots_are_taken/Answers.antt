use Rattle.process_table.proofs.TakenSlots.{all_taken, full_is}
use Rattle.process_table.proofs.laws.all_slots_are_taken.Goals as goal

pub returns-clause-taken : goal.returns-clause-taken
returns-clause-taken c r words tapes context steps traps sound = all_taken r words context sound tapes steps traps

pub returns-clause-full : goal.returns-clause-full
returns-clause-full c = full_is
