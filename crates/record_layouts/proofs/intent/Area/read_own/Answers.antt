use Rattle.std.proofs.Common.{arith}
use Rattle.record_layouts.proofs.Ranges.{words_from-each}
use Rattle.record_layouts.proofs.intent.Area.read_own.Goals as goal

pub returns : goal.returns
returns g c = words_from-each _ c.args.first c.loop-k.words _ (omega arith) (λ j there. c.loop-k.invariant j (omega arith))
