use Rattle.std.proofs.Common.{◌≡◌, ◌≤◌, take}
use Rattle.std.specs.Prelude.{flat_map}
use Rattle.ow_base.specs.Outside.{appended}
use Rattle.record_layouts.specs.Unix.PanicReport.{fate_line}
use Rattle.ow_report.proofs.panics.put_fates.Given as goal

-- the lines of so many are written, and the sink's count of faults did not fall
abbrev pub invariant-loop-pid : goal.invariant-loop-pid
invariant-loop-pid g l = record {
  put : g.K.Sink.written l.sink ≡ appended (g.K.Sink.written l.initial.sink) (flat_map fate_line (take l.pid-index l.fates));
  steady : g.K.Sink.faults l.initial.sink ≤ g.K.Sink.faults l.sink;
}
