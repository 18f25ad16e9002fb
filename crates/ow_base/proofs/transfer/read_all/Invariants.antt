use Rattle.std.proofs.Common.{◌≤◌, ◌+◌, ◌-◌, vec_len}
use Rattle.ow_base.specs.Outside.{Takes}
use Rattle.ow_base.proofs.transfer.read_all.Given as goal

-- what was collected is what was taken, and at most one byte is beyond the limit
abbrev pub invariant-loop-buffer : goal.invariant-loop-buffer
invariant-loop-buffer g l = record {
  taken : Takes (g.S.Source.left l.initial.source) (g.S.Source.left l.source) l.all.items;
  most : vec_len l.all ≤ l.limit + 1;
  steady : g.S.Source.faults l.initial.source ≤ g.S.Source.faults l.source;
}

abbrev pub decreases-loop-buffer : goal.decreases-loop-buffer
decreases-loop-buffer g l = l.limit + 1 - vec_len l.all
