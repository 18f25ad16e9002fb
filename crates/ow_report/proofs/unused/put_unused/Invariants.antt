use Rattle.std.proofs.Common.{◌≡◌, ◌≤◌, take}
use Rattle.std.specs.Prelude.{flat_map}
use Rattle.ow_base.specs.Outside.{appended}
use Rattle.ow_report.specs.Writing.{unused_by}
use Rattle.ow_report.proofs.unused.put_unused.Given as goal

-- the lines of so many are written, and the sink's count of faults did not fall
abbrev pub invariant-loop-panic : goal.invariant-loop-panic
invariant-loop-panic g l = record {
  put : g.K.Sink.written l.sink ≡ appended (g.K.Sink.written l.initial.sink) (flat_map (unused_by l.history) (take l.panic-index l.panics));
  steady : g.K.Sink.faults l.initial.sink ≤ g.K.Sink.faults l.sink;
}
