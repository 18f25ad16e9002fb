use Rattle.std.proofs.Common.{ℕ, ◌≤◌}
use Rattle.record_layouts.specs.Decode.{is_number, slot_by}
use Rattle.record_layouts.specs.Least.{NonePasses}
use Rattle.dead_reader.proofs.processes.least_live_in.Given as goal

abbrev pub invariant-loop-pid : goal.invariant-loop-pid
invariant-loop-pid g l = record {
  from : 1 ≤ l.pid;
  below : NonePasses (λ (pid : ℕ). is_number (slot_by ((g.V.RecordView.records l.view).exits pid)) l.slot) 1 l.pid;
}
