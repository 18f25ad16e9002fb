use Rattle.std.proofs.Common.{arith}
use Rattle.record_layouts.specs.Unix.Report.{row_lines}
use Rattle.ow_report.proofs.Reports.{rows_further, rows_broken, rows_complete}
use Rattle.ow_report.proofs.terminals.put_rows.Goals as goal

pub loop-number-preserved : goal.loop-number-preserved
loop-number-preserved g c = record {
  way = rows_further (row_lines 0 c.args.display.now.rows) c.args.display.now.rows c.loop-number.number c.row.result.now _ _ _
      (omega (arith, c.row.ensures.shape, c.loop-number-test.true)) c.row.ensures.row c.loop-number.invariant.way c.in-Ok.ensures.writes;
  size = λ _. c.row.ensures.shape;
  steady = omega (arith, c.in-Ok.ensures.never_falls);
}

pub returns-in-Err-clause-writes : goal.returns-in-Err-clause-writes
returns-in-Err-clause-writes g c =
    rows_broken (row_lines 0 c.args.display.now.rows) c.args.display.now.rows c.loop-number.number c.row.result.now _ _ _
    (omega (arith, c.row.ensures.shape, c.loop-number-test.true)) c.row.ensures.row c.loop-number.invariant.way c.in-Err.ensures.writes

pub returns-clause-writes : goal.returns-clause-writes
returns-clause-writes g c =
    rows_complete (row_lines 0 c.args.display.now.rows) c.args.display.now.rows c.loop-number.number _ _
    (omega (arith, c.loop-number.invariant.size (omega (arith, c.loop-number-test.false)), c.loop-number-test.false, c.loop-number.auto.number-end)) c.loop-number.invariant.way
