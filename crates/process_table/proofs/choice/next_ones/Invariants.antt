use Rattle.std.proofs.Common.{◌≤◌}
use Rattle.process_table.proofs.Nexts.{IsHeld}
use Rattle.process_table.proofs.choice.next_ones.Given as goal

-- of the slots so far
abbrev pub invariant-loop-slot : goal.invariant-loop-slot
invariant-loop-slot g l = record {
  end : l.slot ≤ 16;
  above : IsHeld (g.V.RecordView.records l.view) l.now l.last l.slot l.nexts.above;
  least : IsHeld (g.V.RecordView.records l.view) l.now 0 l.slot l.nexts.least;
}
