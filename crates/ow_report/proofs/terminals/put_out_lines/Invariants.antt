use Rattle.std.proofs.Common.{◌≤◌, length}
use Rattle.record_layouts.specs.Unix.Report.{out_lines}
use Rattle.ow_report.specs.Writing.{tape_line_count}
use Rattle.ow_report.proofs.Reports.{PartWay}
use Rattle.ow_report.proofs.terminals.put_out_lines.Given as goal

-- the lines of the rest are left, and the sink's count of faults did not fall
abbrev pub invariant-loop-rest : goal.invariant-loop-rest
invariant-loop-rest g l = record {
  way : PartWay (out_lines (tape_line_count l.tape) l.tape) (out_lines (tape_line_count l.rest) l.rest) (g.K.Sink.written l.initial.sink) (g.K.Sink.written l.sink);
  steady : g.K.Sink.faults l.initial.sink ≤ g.K.Sink.faults l.sink;
}

abbrev pub decreases-loop-rest : goal.decreases-loop-rest
decreases-loop-rest g l = length l.rest
