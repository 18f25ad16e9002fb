use Rattle.std.proofs.Common.{◌≡◌, ◌+◌, ◌∷◌, drop, get_or, ◌∙◌, sym, arith}
use Rattle.std.proofs.lemmas.List.{at_drop_more, at_drop_all}
use Rattle.ow_base.specs.Seals.{seal_from}
use Rattle.ow_base.proofs.seals.seal.Goals as goal

pub loop-word-preserved : goal.loop-word-preserved
unfolding seal_from
loop-word-preserved c =
    let step : seal_from c.loop-word.seal (drop c.loop-word.word-index c.args.words.now) ≡ seal_from c.loop-word.seal (get_or c.args.words.now c.loop-word.word-index 0 ∷ drop (c.loop-word.word-index + 1) c.args.words.now)
    = at_drop_more (seal_from c.loop-word.seal) c.args.words.now c.loop-word.word-index 0 (omega arith) in
    cc

pub returns : goal.returns
unfolding seal_from
returns c =
    let step : seal_from c.loop-word.seal (drop c.loop-word.word-index c.args.words.now) ≡ c.loop-word.seal
    = at_drop_all (seal_from c.loop-word.seal) c.args.words.now c.loop-word.word-index (omega arith) in
    sym step ∙ c.loop-word.invariant
