-- The lemmas on rows say it.
use Rattle.rv32_isa.proofs.Rows.{agrees}
use Rattle.rv32_isa.proofs.laws.rows_agree.Goals as goal

pub returns : goal.returns
returns c = agrees
