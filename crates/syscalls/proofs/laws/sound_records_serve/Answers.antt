use Rattle.syscalls.proofs.Exported.{can_call, is_inside}
use Rattle.syscalls.proofs.laws.sound_records_serve.Goals as goal

pub returns-clause-calls : goal.returns-clause-calls
returns-clause-calls c = can_call

pub returns-clause-pieces : goal.returns-clause-pieces
returns-clause-pieces c = is_inside
