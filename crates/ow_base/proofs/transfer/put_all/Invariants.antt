use Rattle.std.proofs.Common.{◌≡◌, ◌≤◌, ◌-◌, length, take}
use Rattle.ow_base.specs.Outside.{appended}
use Rattle.ow_base.proofs.transfer.put_all.Given as goal

-- so many bytes are written, and the sink's count of faults did not fall
abbrev pub invariant-loop-done : goal.invariant-loop-done
invariant-loop-done g l = record {
  within : l.done ≤ length l.bytes;
  put : g.K.Sink.written l.sink ≡ appended (g.K.Sink.written l.initial.sink) (take l.done l.bytes);
  steady : g.K.Sink.faults l.initial.sink ≤ g.K.Sink.faults l.sink;
}

abbrev pub decreases-loop-done : goal.decreases-loop-done
decreases-loop-done g l = length l.initial.bytes - l.done
