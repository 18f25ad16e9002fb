use Rattle.std.proofs.Common.{◌≡◌, ◌<◌, ◌≤◌, length, drop}
use Rattle.record_layouts.specs.Unix.Report.{row_lines}
use Rattle.ow_report.proofs.Reports.{PartWay}
use Rattle.ow_report.proofs.terminals.put_rows.Given as goal

-- the lines of the rows from this one on are left, and the sink's count of faults did not fall
abbrev pub invariant-loop-number : goal.invariant-loop-number
invariant-loop-number g l = record {
  way : PartWay (row_lines 0 l.display.rows) (row_lines l.number (drop l.number l.display.rows)) (g.K.Sink.written l.initial.sink) (g.K.Sink.written l.sink);
  size : 0 < l.number → length l.display.rows ≡ 24;
  steady : g.K.Sink.faults l.initial.sink ≤ g.K.Sink.faults l.sink;
}
