-- A front of a line, behind those before it, is a front of the head.
use Rattle.std.proofs.Common.{ℕ, List, ◌++◌}
use Rattle.std.specs.Prelude.{codes}
use Rattle.ow_base.specs.Lines.{line, spaced, number_line}
use Rattle.record_layouts.specs.Unix.Report.{head_text, ending_word}
use Rattle.ow_base.specs.declared.worlds.Ending.{Ending}
use Rattle.ow_base.proofs.Writing.{cut}
use Rattle.ow_report.proofs.Reports.{begun, further, broken, finished}
use Rattle.ow_report.proofs.report.put_head.Goals as goal

title : List ℕ
title = line (codes "otherworld 1")

ending_line : Ending → List ℕ
ending_line ending = line (spaced (codes "ending") (ending_word ending))

counts : (steps traps : ℕ) → List ℕ
counts steps traps = number_line (codes "steps") steps ++ number_line (codes "traps") traps

pub returns-in-Err-clause-writes : goal.returns-in-Err-clause-writes
unfolding head_text title ending_line counts
returns-in-Err-clause-writes g c =
    cut title (ending_line c.args.ending ++ counts c.args.steps c.args.traps) _ _ c.in-Err.ensures.writes

pub returns-in-Err-put_ending-clause-writes : goal.returns-in-Err-put_ending-clause-writes
unfolding head_text title ending_line counts
returns-in-Err-put_ending-clause-writes g c =
    let text = head_text c.args.ending c.args.steps c.args.traps in
    let counted = counts c.args.steps c.args.traps in
    let ended = ending_line c.args.ending in
    broken text ended counted _ _ _
    (further text title (ended ++ counted) _ _ _ (begun text _) c.in-Ok.ensures.writes)
    c.in-Err-put_ending.ensures.writes

pub returns-in-Err-put_number_line-clause-writes :
    goal.returns-in-Err-put_number_line-clause-writes
unfolding head_text title ending_line counts
returns-in-Err-put_number_line-clause-writes g c =
    let text = head_text c.args.ending c.args.steps c.args.traps in
    let steps = number_line (codes "steps") c.args.steps in
    let traps = number_line (codes "traps") c.args.traps in
    let ended = ending_line c.args.ending in
    broken text steps traps _ _ _
    (further text ended (steps ++ traps) _ _ _
    (further text title (ended ++ (steps ++ traps)) _ _ _ (begun text _) c.in-Ok.ensures.writes)
    c.in-Ok-put_ending.ensures.writes)
    c.in-Err-put_number_line.ensures.writes

pub returns-clause-writes : goal.returns-clause-writes
unfolding head_text title ending_line counts
returns-clause-writes g c =
    let text = head_text c.args.ending c.args.steps c.args.traps in
    let steps = number_line (codes "steps") c.args.steps in
    let traps = number_line (codes "traps") c.args.traps in
    let ended = ending_line c.args.ending in
    finished _ text traps _ _ _
    (further text steps traps _ _ _
    (further text ended (steps ++ traps) _ _ _
    (further text title (ended ++ (steps ++ traps)) _ _ _ (begun text _) c.in-Ok.ensures.writes)
    c.in-Ok-put_ending.ensures.writes)
    c.in-Ok-put_number_line.ensures.writes)
    c.put_number_line-2.ensures.writes
