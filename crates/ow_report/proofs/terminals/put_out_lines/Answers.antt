use Rattle.std.proofs.Common.{arith}
use Rattle.record_layouts.specs.Unix.Report.{out_lines}
use Rattle.ow_report.specs.Writing.{tape_line_count}
use Rattle.ow_report.proofs.Reports.{out_further, out_broken, out_complete, some_left, none_left}
use Rattle.ow_report.proofs.terminals.put_out_lines.Goals as goal

pub loop-rest-preserved : goal.loop-rest-preserved
loop-rest-preserved g c = record {
  way = out_further (out_lines (tape_line_count c.args.tape.now) c.args.tape.now) c.loop-rest.rest.now c.split_at.result.0.now c.split_at.result.1.now c.min.result _ _ _
      (some_left c.loop-rest.rest.now c.loop-rest-test.ensures) c.min.ensures c.split_at.ensures.front c.split_at.ensures.back c.loop-rest.invariant.way c.in-Ok.ensures.writes;
  steady = omega (arith, c.in-Ok.ensures.never_falls);
}

pub returns-in-Err-clause-writes : goal.returns-in-Err-clause-writes
returns-in-Err-clause-writes g c =
    out_broken (out_lines (tape_line_count c.args.tape.now) c.args.tape.now) c.loop-rest.rest.now c.split_at.result.0.now c.min.result _ _ _
    (some_left c.loop-rest.rest.now c.loop-rest-test.ensures) c.min.ensures c.split_at.ensures.front c.loop-rest.invariant.way c.in-Err.ensures.writes

pub returns-clause-writes : goal.returns-clause-writes
returns-clause-writes g c =
    out_complete (out_lines (tape_line_count c.args.tape.now) c.args.tape.now) c.loop-rest.rest.now _ _
    (none_left c.loop-rest.rest.now c.loop-rest-test.ensures) c.loop-rest.invariant.way
