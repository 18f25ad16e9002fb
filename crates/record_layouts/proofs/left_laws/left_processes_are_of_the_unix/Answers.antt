use Rattle.record_layouts.proofs.LeftImages.{call_left, process_left}
use Rattle.record_layouts.proofs.left_laws.left_processes_are_of_the_unix.Goals as goal

pub returns-clause-process : goal.returns-clause-process
returns-clause-process c = process_left

pub returns-clause-call : goal.returns-clause-call
returns-clause-call c = call_left
