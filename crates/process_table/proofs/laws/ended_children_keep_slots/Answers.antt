use Rattle.process_table.proofs.TakenSlots.{ended_child_there, ended_pid_apart}
use Rattle.process_table.proofs.laws.ended_children_keep_slots.Goals as goal

pub returns-clause-child : goal.returns-clause-child
returns-clause-child c r words context slot process sound within there ended parent = ended_child_there r words context sound slot process within there ended parent

pub returns-clause-apart : goal.returns-clause-apart
returns-clause-apart c r words context slot process sound there ended = ended_pid_apart r words context sound slot process there ended
