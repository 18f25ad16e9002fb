use Rattle.std.proofs.Common.{arith}
use Rattle.ow_base.proofs.Writing.{front_at, one_more}
use Rattle.record_layouts.specs.Unix.PanicReport.{broken_line}
use Rattle.ow_report.proofs.panics.put_broken.Goals as goal

pub returns-in-Err-clause-writes : goal.returns-in-Err-clause-writes
returns-in-Err-clause-writes g c =
    front_at broken_line c.args.stores.now c.loop-store.store-index _ _ _ _ c.loop-store-test.true c.loop-store.invariant.put
    c.in-Err.ensures.writes

pub loop-store-preserved : goal.loop-store-preserved
loop-store-preserved g c = record {
  put = one_more broken_line c.args.stores.now c.loop-store.store-index _ _ _ _ c.loop-store-test.true c.loop-store.invariant.put
      c.in-Ok.ensures.writes;
  steady = omega (arith, c.in-Ok.ensures.never_falls);
}
