use Rattle.std.specs.Prelude.{flat_map}
use Rattle.ow_base.proofs.Writing.{cut, then_writes}
use Rattle.record_layouts.specs.Unix.PanicReport.{unused_again}
use Rattle.ow_report.specs.Writing.{unused_panic}
use Rattle.ow_report.proofs.unused.put_unused_of.Goals as goal

pub returns-in-Ok-clause-writes : goal.returns-in-Ok-clause-writes
returns-in-Ok-clause-writes g c =
    let panic = c.args.panic.now in
    rw c.in-None.is
    (then_writes c.put_agains-in-Ok.result (unused_panic panic) (flat_map (unused_again panic.trap) panic.agains) _ _ _ c.in-Ok.ensures.writes
    (rw c.items-agains.ensures at c.put_agains-in-Ok.ensures.writes))

pub returns-in-Err-clause-writes : goal.returns-in-Err-clause-writes
returns-in-Err-clause-writes g c =
    let panic = c.args.panic.now in
    rw c.in-None.is (cut (unused_panic panic) (flat_map (unused_again panic.trap) panic.agains) _ _ c.in-Err.ensures.writes)
