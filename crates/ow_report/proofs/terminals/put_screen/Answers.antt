use Rattle.std.specs.Prelude.{codes, decimal}
use Rattle.ow_base.specs.Lines.{line, spaced}
use Rattle.record_layouts.specs.Unix.Report.{screen_text, row_lines}
use Rattle.ow_base.proofs.Writing.{cut, then_writes}
use Rattle.ow_report.proofs.terminals.put_screen.Goals as goal

pub returns-in-Ok-clause-writes : goal.returns-in-Ok-clause-writes
unfolding screen_text
returns-in-Ok-clause-writes g c =
    let s = c.args.display.now in
    then_writes c.put_rows.result (line (spaced (spaced (spaced (codes "screen") (decimal c.args.tty)) (decimal s.row)) (decimal s.col)))
    (row_lines 0 s.rows) _ _ _ (rw (c.at-row.ensures.row, c.at-row.ensures.col) at c.in-Ok.ensures.writes) c.put_rows.ensures.writes

pub returns-in-Err-clause-writes : goal.returns-in-Err-clause-writes
unfolding screen_text
returns-in-Err-clause-writes g c =
    let s = c.args.display.now in
    cut (line (spaced (spaced (spaced (codes "screen") (decimal c.args.tty)) (decimal s.row)) (decimal s.col)))
    (row_lines 0 s.rows) _ _ (rw (c.at-row.ensures.row, c.at-row.ensures.col) at c.in-Err.ensures.writes)
