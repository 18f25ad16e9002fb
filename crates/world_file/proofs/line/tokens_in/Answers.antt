use Rattle.world_file.proofs.WorldWords.{words_end}
use Rattle.world_file.proofs.line.tokens_in.Goals as goal

pub returns : goal.returns
returns c =
    let loop = c.loop-token in
    rw c.in_ok-push-2.ensures.items (words_end loop.all.items loop.rest c.args.line.now c.in_default.ensures.whole loop.invariant)
