-- A front of a part, behind those before it, is a front of the report.
use Rattle.std.proofs.Common.{◌++◌}
use Rattle.record_layouts.specs.Unix.PanicReport.{panic_lines, unused_lines}
use Rattle.record_layouts.specs.Unix.Report.{head_text}
use Rattle.ow_base.proofs.Writing.{cut}
use Rattle.ow_report.specs.Agrees.{plant_text}
use Rattle.ow_report.proofs.Reports.{begun, further, broken, finished, report_parts}
use Rattle.ow_report.proofs.report.write_report.Goals as goal

pub returns-in-Err-clause-writes : goal.returns-in-Err-clause-writes
returns-in-Err-clause-writes g c w agrees =
    let s = c.args.plant.now in
    let head = head_text c.args.ending s.steps s.traps in
    let panics = panic_lines s.history c.args.log.now.entries ++ unused_lines c.args.world.now.panics s.history in
    rw (report_parts c.args.world.now.panics c.args.log.now.entries c.args.ending s w agrees)
    (cut head (panics ++ plant_text s) _ _ (rw (c.steps.ensures, c.traps.ensures) at c.in-Err.ensures.writes))

pub returns-in-Err-put_all_panics-clause-writes : goal.returns-in-Err-put_all_panics-clause-writes
returns-in-Err-put_all_panics-clause-writes g c w agrees =
    let s = c.args.plant.now in
    let head = head_text c.args.ending s.steps s.traps in
    let panics = panic_lines s.history c.args.log.now.entries ++ unused_lines c.args.world.now.panics s.history in
    let text = head ++ (panics ++ plant_text s) in
    rw (report_parts c.args.world.now.panics c.args.log.now.entries c.args.ending s w agrees)
    (broken text panics (plant_text s) _ _ _
    (further text head (panics ++ plant_text s) _ _ _ (begun text _) (rw (c.steps.ensures, c.traps.ensures) at c.in-Ok.ensures.writes))
    c.in-Err-put_all_panics.ensures.writes)

pub returns-in-Ok-put_all_panics-clause-writes : goal.returns-in-Ok-put_all_panics-clause-writes
returns-in-Ok-put_all_panics-clause-writes g c w agrees =
    let s = c.args.plant.now in
    let head = head_text c.args.ending s.steps s.traps in
    let panics = panic_lines s.history c.args.log.now.entries ++ unused_lines c.args.world.now.panics s.history in
    let text = head ++ (panics ++ plant_text s) in
    rw (report_parts c.args.world.now.panics c.args.log.now.entries c.args.ending s w agrees)
    (finished _ text (plant_text s) _ _ _
    (further text panics (plant_text s) _ _ _
    (further text head (panics ++ plant_text s) _ _ _ (begun text _) (rw (c.steps.ensures, c.traps.ensures) at c.in-Ok.ensures.writes))
    c.in-Ok-put_all_panics.ensures.writes)
    c.put_state.ensures.writes)
