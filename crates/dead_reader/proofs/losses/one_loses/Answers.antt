use Rattle.std.proofs.Common.{◌≡◌, true, refl, sym, arith}
use Rattle.std.proofs.lemmas.Grind.{common_steps}
use Rattle.record_layouts.proofs.Least.{any_found, any_none}
use Rattle.dead_reader.specs.Losses.{one_loses, loses_at}
use Rattle.dead_reader.proofs.losses.one_loses.Goals as goal

pub returns-then-loses : goal.returns-then-loses
unfolding one_loses
returns-then-loses g c =
    let test = loses_at (g.V.RecordView.records c.args.view.now) c.args.loss c.args.descriptors.now in
    let passes : test c.loop-k.k ≡ true = grind (arith, common_steps) in
    sym (any_found test 0 8 8 c.loop-k.k refl (omega arith) (omega arith) passes)

pub returns : goal.returns
unfolding one_loses
returns g c = sym (any_none (loses_at (g.V.RecordView.records c.args.view.now) c.args.loss c.args.descriptors.now) 0 8 8 refl
    (record { none = λ k from to. c.loop-k.invariant.below.none k from (omega arith) }))
