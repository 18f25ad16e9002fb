use Rattle.std.proofs.Common.{◌≡◌, ◌≤◌, take}
use Rattle.ow_base.specs.Lines.{escaped}
use Rattle.ow_base.specs.Outside.{appended}
use Rattle.ow_base.proofs.transfer.put_escaped.Given as goal

-- the text of so many bytes is written, and the sink's count of faults did not fall
abbrev pub invariant-loop-byte : goal.invariant-loop-byte
invariant-loop-byte g l = record {
  put : g.K.Sink.written l.sink ≡ appended (g.K.Sink.written l.initial.sink) (escaped (take l.byte-index l.bytes));
  steady : g.K.Sink.faults l.initial.sink ≤ g.K.Sink.faults l.sink;
}
