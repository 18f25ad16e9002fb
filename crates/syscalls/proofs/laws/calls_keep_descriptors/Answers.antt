use Rattle.syscalls.proofs.Planning.{call_keeps_descriptors, piece_keeps_descriptors}
use Rattle.syscalls.proofs.laws.calls_keep_descriptors.Goals as goal

pub returns-clause-calls : goal.returns-clause-calls
returns-clause-calls c = call_keeps_descriptors

pub returns-clause-pieces : goal.returns-clause-pieces
returns-clause-pieces c = piece_keeps_descriptors
