-- The lemmas on rows say it.
use Rattle.rv32_isa.proofs.Rows.{illegal}
use Rattle.rv32_isa.proofs.laws.others_are_illegal.Goals as goal

pub returns : goal.returns
returns c = illegal
