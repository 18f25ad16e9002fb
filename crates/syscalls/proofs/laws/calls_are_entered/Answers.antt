use Rattle.syscalls.proofs.Exported.{entered_then}
use Rattle.syscalls.proofs.laws.calls_are_entered.Goals as goal

pub returns : goal.returns
returns c = entered_then
