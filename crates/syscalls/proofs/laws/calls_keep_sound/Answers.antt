use Rattle.syscalls.proofs.KeptSound.{call_keeps, piece_keeps}
use Rattle.syscalls.proofs.laws.calls_keep_sound.Goals as goal

pub returns-clause-calls : goal.returns-clause-calls
returns-clause-calls c = call_keeps

pub returns-clause-pieces : goal.returns-clause-pieces
returns-clause-pieces c = piece_keeps
