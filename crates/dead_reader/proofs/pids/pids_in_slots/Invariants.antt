use Rattle.dead_reader.proofs.LiveIn.{AreOfLast}
use Rattle.dead_reader.proofs.pids.pids_in_slots.Given as goal

abbrev pub invariant-loop-behind : goal.invariant-loop-behind
invariant-loop-behind g l = AreOfLast (g.V.RecordView.records l.view) l.behind l.pids
