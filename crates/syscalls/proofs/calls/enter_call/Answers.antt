use Rattle.std.proofs.Common.{sym, subst}
use Rattle.std.specs.Option.{IsSome}
use Rattle.record_layouts.specs.declared.places.RecordId.TheVariants as id
use Rattle.syscalls.proofs.calls.enter_call.Goals as goal

pub unwrap-requires-2 : goal.unwrap-requires-2
unwrap-requires-2 g c = subst IsSome (sym c.head.ensures.record) (c.requires.can.complete id.Head tt)
