use Rattle.std.proofs.Common.{◌≡◌, ◌≤◌, take}
use Rattle.std.specs.Prelude.{flat_map}
use Rattle.ow_base.specs.Outside.{appended}
use Rattle.ow_report.specs.Writing.{next_token}
use Rattle.ow_report.proofs.lines.put_tokens.Given as goal

-- so many words are written, and the sink's count of faults did not fall
abbrev pub invariant-loop-token : goal.invariant-loop-token
invariant-loop-token g l = record {
  put : g.K.Sink.written l.sink ≡ appended (g.K.Sink.written l.initial.sink) (flat_map next_token (take l.token-index l.tokens));
  steady : g.K.Sink.faults l.initial.sink ≤ g.K.Sink.faults l.sink;
}
