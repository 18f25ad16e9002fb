use Rattle.std.proofs.Common.{◌≡◌, ℕ, Bool, true, slice_index, ◌==◌, refl, sym, arith}
use Rattle.std.proofs.lemmas.Grind.{common_steps}
use Rattle.record_layouts.proofs.Least.{any_found, any_none}
use Rattle.resurrector.specs.Survivors.{names}
use Rattle.resurrector.proofs.left.names.Goals as goal

pub returns-then-descriptors-k : goal.returns-then-descriptors-k
unfolding names
returns-then-descriptors-k c =
    let test : ℕ → Bool = λ k. slice_index c.args.descriptors.now k == c.args.word in
    let passes : test c.loop-k.k ≡ true = grind (arith, common_steps) in
    sym (any_found test 0 8 8 c.loop-k.k refl (omega arith) (omega arith) passes)

pub returns : goal.returns
unfolding names
returns c = sym (any_none (λ k. slice_index c.args.descriptors.now k == c.args.word) 0 8 8 refl
    (record { none = λ k from to. c.loop-k.invariant.below.none k from (omega arith) }))
