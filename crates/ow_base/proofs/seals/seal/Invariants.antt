use Rattle.std.proofs.Common.{◌≡◌, drop}
use Rattle.ow_base.specs.Seals.{seal_from}
use Rattle.ow_base.proofs.seals.seal.Given as goal

-- what is left makes the whole seal of the seal so far
abbrev pub invariant-loop-word : goal.invariant-loop-word
invariant-loop-word l = seal_from l.seal (drop l.word-index l.words) ≡ seal_from l.kind l.words
