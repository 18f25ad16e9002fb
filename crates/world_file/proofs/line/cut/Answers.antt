use Rattle.std.proofs.Common.{arith}
use Rattle.std.proofs.lemmas.Grind.{common_steps}
use Rattle.world_file.proofs.WorldPieces.{pieces_found, pieces_none}
use Rattle.world_file.proofs.line.cut.Goals as goal

pub returns-then-byte-separator-clause-found : goal.returns-then-byte-separator-clause-found
returns-then-byte-separator-clause-found c =
    let h = pieces_found c.args.separator c.args.text.now c.loop-i.i c.loop-i.invariant (omega arith) c.if-byte-separator.true in
    grind (arith, common_steps, h)

pub returns-clause-whole : goal.returns-clause-whole
returns-clause-whole c = pieces_none c.args.separator c.args.text.now (λ k low. c.loop-i.invariant k (omega arith))
