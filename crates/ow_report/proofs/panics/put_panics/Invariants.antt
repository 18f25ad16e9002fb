use Rattle.std.proofs.Common.{◌≤◌, drop}
use Rattle.record_layouts.specs.Unix.PanicReport.{panic_lines}
use Rattle.ow_report.proofs.Reports.{PartWay}
use Rattle.ow_report.proofs.panics.put_panics.Given as goal

-- the panics from this one on are left, and the sink's count of faults did not fall
abbrev pub invariant-loop-index : goal.invariant-loop-index
invariant-loop-index g l = record {
  way : PartWay (panic_lines l.history l.log.entries) (panic_lines (drop l.index l.history) (drop l.index l.log.entries)) (g.K.Sink.written l.initial.sink) (g.K.Sink.written l.sink);
  steady : g.K.Sink.faults l.initial.sink ≤ g.K.Sink.faults l.sink;
}
