use Rattle.std.proofs.Common.{◌≡◌, ◌≤◌, take}
use Rattle.std.specs.Prelude.{flat_map}
use Rattle.ow_base.specs.Outside.{appended}
use Rattle.record_layouts.specs.Unix.PanicReport.{broken_line}
use Rattle.ow_report.proofs.panics.put_broken.Given as goal

-- the lines of so many are written, and the sink's count of faults did not fall
abbrev pub invariant-loop-store : goal.invariant-loop-store
invariant-loop-store g l = record {
  put : g.K.Sink.written l.sink ≡ appended (g.K.Sink.written l.initial.sink) (flat_map broken_line (take l.store-index l.stores));
  steady : g.K.Sink.faults l.initial.sink ≤ g.K.Sink.faults l.sink;
}
