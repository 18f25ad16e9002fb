use Rattle.std.proofs.Common.{◌≡◌, ◌++◌, length, map}
use Rattle.world_file.specs.WorldLines.{pieces}
use Rattle.world_file.proofs.line.tokens_in.Given as goal

-- the tokens so far, and those of the rest, are those of the line
abbrev pub invariant-loop-token : goal.invariant-loop-token
invariant-loop-token l = map (λ token. token.now) l.all.items ++ pieces 32 l.rest ≡ pieces 32 l.line

abbrev pub decreases-loop-token : goal.decreases-loop-token
decreases-loop-token l = length l.rest
