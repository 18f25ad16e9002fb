use Rattle.std.proofs.Common.{sym, ◌∙◌, arith}
use Rattle.dead_reader.proofs.LiveIn.{of_all, of_none, past_live, past_none}
use Rattle.dead_reader.proofs.pids.pids_in_slots.Goals as goal
use Rattle.dead_reader.proofs.pids.pids_in_slots.Goals.{in-Some, in_default}

pub loop-behind-init : goal.loop-behind-init
loop-behind-init g c = of_none _

pub loop-behind-preserved : goal.loop-behind-preserved
loop-behind-preserved g c = elim c.match-slot_of.branch [
  | in-Some w ↦ rw w.pids-is (past_live _ _ _ w.in-Some.slot c.loop-behind-test.true c.loop-behind.invariant
      (sym c.slot_of.ensures.slot ∙ w.in-Some.is) (rw w.in-Some.is at c.slot_of.ensures.low))
  | in_default w ↦ rw w.pids-is (past_none _ _ _ c.loop-behind-test.true c.loop-behind.invariant (sym c.slot_of.ensures.slot ∙ w.in_default.is))
]

pub returns : goal.returns
returns g c = of_all _ _ _ (omega (arith, c.loop-behind-test.false, c.loop-behind.auto.behind-end)) c.loop-behind.invariant
