use Rattle.std.proofs.Common.{◌++◌}
use Rattle.std.specs.Prelude.{flat_map}
use Rattle.record_layouts.specs.Unix.PanicReport.{broken_line, fate_line, panic_line, with_fates}
use Rattle.ow_base.proofs.Writing.{cut}
use Rattle.ow_report.proofs.Reports.{begun, further, broken, finished}
use Rattle.ow_report.proofs.panics.put_panic.Goals as goal

pub returns-in-Err-clause-writes : goal.returns-in-Err-clause-writes
returns-in-Err-clause-writes g c =
    let r = c.args.entry.now in
    cut (panic_line r) (flat_map broken_line r.broken.items ++ flat_map fate_line c.args.fates.now) _ _ c.in-Err.ensures.writes

pub returns-in-Err-put_broken-clause-writes : goal.returns-in-Err-put_broken-clause-writes
returns-in-Err-put_broken-clause-writes g c =
    let r = c.args.entry.now in
    let text = with_fates r c.args.fates.now in
    let ends = flat_map broken_line r.broken.items in
    let fates = flat_map fate_line c.args.fates.now in
    broken text ends fates _ _ _
    (further text (panic_line r) (ends ++ fates) _ _ _ (begun text _) c.in-Ok.ensures.writes)
    (rw c.as_slice.ensures.value at c.in-Err-put_broken.ensures.writes)

pub returns-in-Ok-put_broken-clause-writes : goal.returns-in-Ok-put_broken-clause-writes
returns-in-Ok-put_broken-clause-writes g c =
    let r = c.args.entry.now in
    let text = with_fates r c.args.fates.now in
    let ends = flat_map broken_line r.broken.items in
    let fates = flat_map fate_line c.args.fates.now in
    finished _ text fates _ _ _
    (further text ends fates _ _ _
    (further text (panic_line r) (ends ++ fates) _ _ _ (begun text _) c.in-Ok.ensures.writes)
    (rw c.as_slice.ensures.value at c.in-Ok-put_broken.ensures.writes))
    c.put_fates.ensures.writes
