use Rattle.std.proofs.Common.{arith}
use Rattle.std.proofs.lemmas.List.{take_all}
use Rattle.ow_base.proofs.Writing.{front_at, one_more}
use Rattle.ow_report.specs.Writing.{unused_by}
use Rattle.ow_report.proofs.Reports.{unused_each}
use Rattle.ow_report.proofs.unused.put_unused.Goals as goal

pub loop-panic-preserved : goal.loop-panic-preserved
loop-panic-preserved g c = record {
  put = one_more (unused_by c.args.history.now) c.args.panics.now c.loop-panic.panic-index c.panic-item.result _ _ _ c.loop-panic-test.true c.loop-panic.invariant.put
      (rw (← c.panic-item.is) (rw c.entry_for.ensures at c.in-Ok.ensures.writes));
  steady = omega (arith, c.in-Ok.ensures.never_falls);
}

pub returns-in-Err-clause-writes : goal.returns-in-Err-clause-writes
returns-in-Err-clause-writes g c =
    rw unused_each
    (front_at (unused_by c.args.history.now) c.args.panics.now c.loop-panic.panic-index c.panic-item.result _ _ _ c.loop-panic-test.true c.loop-panic.invariant.put
    (rw (← c.panic-item.is) (rw c.entry_for.ensures at c.in-Err.ensures.writes)))

pub returns-clause-writes : goal.returns-clause-writes
returns-clause-writes g c =
    rw unused_each (rw (take_all c.loop-panic.panic-index c.args.panics.now c.loop-panic-test.false) at c.loop-panic.invariant.put)
