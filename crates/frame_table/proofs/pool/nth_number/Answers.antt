use Rattle.std.proofs.Common.{arith}
use Rattle.std.proofs.lemmas.Grind.{common_steps}
use Rattle.frame_table.proofs.Free.{next_is, none_first, none_next}
use Rattle.frame_table.proofs.pool.nth_number.Goals as goal

pub returns-in_err-number-clause-none : goal.returns-in_err-number-clause-none
returns-in_err-number-clause-none g c =
    let few = none_first (g.V.RecordView.records c.args.view.now) c.args.user_frames c.args.i c.in_err-number.ensures.none in
    grind (arith, common_steps, few)

pub returns-in_err-number-2-clause-none : goal.returns-in_err-number-2-clause-none
returns-in_err-number-2-clause-none g c =
    let few = none_next (g.V.RecordView.records c.args.view.now) c.args.user_frames c.args.i c.loop-before.number c.loop-before._before
    c.loop-before.invariant.nth c.loop-before-test.true c.in_err-number-2.ensures.none in
    grind (arith, common_steps, few)

pub loop-before-preserved : goal.loop-before-preserved
loop-before-preserved g c = record {
  nth = next_is (g.V.RecordView.records c.args.view.now) c.args.user_frames c.loop-before._before c.loop-before.number c.in_ok-number-2.number
      c.loop-before.invariant.nth c.in_ok-number-2.ensures.found;
}
