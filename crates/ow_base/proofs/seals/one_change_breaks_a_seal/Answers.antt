-- The lemmas on seals say it.
use Rattle.ow_base.proofs.Sealing.{broken}
use Rattle.ow_base.proofs.seals.one_change_breaks_a_seal.Goals as goal

pub returns : goal.returns
returns c = broken
