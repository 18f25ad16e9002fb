use Rattle.std.proofs.Common.{◌≡◌, ◌≤◌, ◌+◌}
use Rattle.resurrector.specs.Revived.{next_behind}
use Rattle.resurrector.proofs.left.Left.next_pid.Given as goal

abbrev pub invariant-loop-before : goal.invariant-loop-before
invariant-loop-before g l = record {
  is : l.next ≡ next_behind (g.V.RecordView.records l.self.view.now) l.before;
  some : 1 ≤ l.next;
  few : l.next ≤ l.before + 1;
}
