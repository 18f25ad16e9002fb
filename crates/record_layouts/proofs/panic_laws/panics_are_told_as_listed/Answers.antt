use Rattle.std.proofs.Common.{refl}
use Rattle.std.specs.Fmt.{digits}
use Rattle.record_layouts.specs.Unix.PanicReport.{panic_line}
use Rattle.record_layouts.proofs.panic_laws.panics_are_told_as_listed.Goals as goal

pub returns-clause-store : goal.returns-clause-store
unfolding panic_line digits
returns-clause-store c r trap listed at_leave pid = rw (trap, listed, at_leave, pid) refl

pub returns-clause-leave : goal.returns-clause-leave
unfolding panic_line digits
returns-clause-leave c r trap listed at_leave pid = rw (trap, listed, at_leave, pid) refl
