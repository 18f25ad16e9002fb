use Rattle.world_file.proofs.WorldNumbers.{number_exact}
use Rattle.world_file.proofs.line.number_of.Goals as goal

pub returns : goal.returns
returns c = number_exact c.args.field.now c.decimal.result c.decimal.ensures.small c.decimal.ensures.found c.decimal.ensures.none
