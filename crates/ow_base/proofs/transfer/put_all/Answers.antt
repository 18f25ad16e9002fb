-- A front of what is behind `done`, behind the bytes up to it, is a front of all.
use Rattle.std.proofs.Common.{arith}
use Rattle.ow_base.proofs.Writing.{front_of_rest, more_of_rest, whole_rest}
use Rattle.ow_base.proofs.transfer.put_all.Goals as goal

pub loop-done-preserved : goal.loop-done-preserved
loop-done-preserved g c = record {
  within = let e = whole_rest c.loop-done.done c.args.bytes.now in grind arith;
  put = more_of_rest c.loop-done.done c.in-Ok.count c.args.bytes.now _ _ _ c.loop-done.invariant.put
      (rw (whole_rest c.loop-done.done c.args.bytes.now) at c.in-Ok.ensures.written);
  steady = omega (arith, c.in-Ok.ensures.never_falls);
}

pub returns-in-Err-clause-writes : goal.returns-in-Err-clause-writes
returns-in-Err-clause-writes g c =
    front_of_rest c.loop-done.done c.args.bytes.now _ _ _ c.loop-done.invariant.put
    (rw (whole_rest c.loop-done.done c.args.bytes.now) at c.in-Err.ensures.front)
