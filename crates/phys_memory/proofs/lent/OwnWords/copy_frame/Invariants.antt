use Rattle.phys_memory.proofs.Copies.{Copied}
use Rattle.phys_memory.proofs.lent.OwnWords.copy_frame.Given as goal

-- the words below the place are copied, and nothing else has changed
abbrev pub invariant-loop-word : goal.invariant-loop-word
invariant-loop-word g l = Copied (g.W.WordSource.words l.source l.from) l.fn.self l.self l.to l.word
