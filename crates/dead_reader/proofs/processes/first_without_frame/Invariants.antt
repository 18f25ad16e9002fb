use Rattle.std.proofs.Common.{◌≤◌}
use Rattle.record_layouts.specs.Least.{NonePasses}
use Rattle.dead_reader.proofs.Framed.{is_bare}
use Rattle.dead_reader.proofs.processes.first_without_frame.Given as goal

abbrev pub invariant-loop-page : goal.invariant-loop-page
invariant-loop-page g l = record {
  from : l.first ≤ l.page;
  below : NonePasses (is_bare (g.V.RecordView.records l.view) l.slot l.rec) l.first l.page;
}
