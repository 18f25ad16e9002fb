use Rattle.record_layouts.specs.Unix.PanicReport.{panic_lines, unused_lines}
use Rattle.ow_base.proofs.Writing.{cut, then_writes}
use Rattle.ow_report.proofs.report.put_all_panics.Goals as goal

pub returns-in-Ok-clause-writes : goal.returns-in-Ok-clause-writes
returns-in-Ok-clause-writes g c =
    let s = c.args.plant.now in
    then_writes c.put_unused.result (panic_lines s.history c.args.log.now.entries) (unused_lines c.args.world.now.panics s.history) _ _ _
    (rw c.history.ensures at c.in-Ok.ensures.writes) (rw (c.history-in-Ok.ensures, c.items.ensures) at c.put_unused.ensures.writes)

pub returns-in-Err-clause-writes : goal.returns-in-Err-clause-writes
returns-in-Err-clause-writes g c =
    let s = c.args.plant.now in
    cut (panic_lines s.history c.args.log.now.entries) (unused_lines c.args.world.now.panics s.history) _ _
    (rw c.history.ensures at c.in-Err.ensures.writes)
