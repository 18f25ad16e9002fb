use Rattle.std.proofs.Common.{arith}
use Rattle.ow_base.proofs.Writing.{front_at, one_more}
use Rattle.record_layouts.specs.Unix.PanicReport.{fate_line}
use Rattle.ow_report.proofs.panics.put_fates.Goals as goal

pub returns-in-Err-clause-writes : goal.returns-in-Err-clause-writes
returns-in-Err-clause-writes g c =
    front_at fate_line c.args.fates.now c.loop-pid.pid-index _ _ _ _ c.loop-pid-test.true c.loop-pid.invariant.put
    c.in-Err.ensures.writes

pub loop-pid-preserved : goal.loop-pid-preserved
loop-pid-preserved g c = record {
  put = one_more fate_line c.args.fates.now c.loop-pid.pid-index _ _ _ _ c.loop-pid-test.true c.loop-pid.invariant.put
      c.in-Ok.ensures.writes;
  steady = omega (arith, c.in-Ok.ensures.never_falls);
}
