use Rattle.std.proofs.Common.{ℕ}
use Rattle.record_layouts.specs.Decode.{is_number, pid_in, slot_by}
use Rattle.record_layouts.proofs.Least.{least_by}
use Rattle.dead_reader.proofs.processes.pid_in.Goals as goal

pub returns : goal.returns
unfolding pid_in
returns g c =
    let r = g.V.RecordView.records c.args.view.now in
    least_by (λ (pid : ℕ). is_number (slot_by (r.exits pid)) c.args.slot) 1 256 _ c.least_live_in.ensures.found c.least_live_in.ensures.none
