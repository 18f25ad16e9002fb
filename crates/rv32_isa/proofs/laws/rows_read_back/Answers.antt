-- The lemmas on rows say it.
use Rattle.rv32_isa.proofs.Rows.{back}
use Rattle.rv32_isa.proofs.laws.rows_read_back.Goals as goal

pub returns : goal.returns
returns c = back
