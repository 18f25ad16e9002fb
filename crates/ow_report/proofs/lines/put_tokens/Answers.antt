use Rattle.ow_base.proofs.Writing.{front_at, one_more}
use Rattle.std.proofs.Common.{arith}
use Rattle.ow_report.specs.Writing.{next_token}
use Rattle.ow_report.proofs.lines.put_tokens.Goals as goal

pub returns-in-Err-clause-writes : goal.returns-in-Err-clause-writes
returns-in-Err-clause-writes g c =
    front_at next_token c.args.tokens.now c.loop-token.token-index _ _ _ _ c.loop-token-test.true c.loop-token.invariant.put
    c.in-Err.ensures.writes

pub loop-token-preserved : goal.loop-token-preserved
loop-token-preserved g c = record {
  put = one_more next_token c.args.tokens.now c.loop-token.token-index _ _ _ _ c.loop-token-test.true c.loop-token.invariant.put
      c.in-Ok.ensures.writes;
  steady = omega (arith, c.in-Ok.ensures.never_falls);
}
