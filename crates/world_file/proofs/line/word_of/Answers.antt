use Rattle.world_file.proofs.WorldNumbers.{word_exact}
use Rattle.world_file.proofs.line.word_of.Goals as goal

pub returns : goal.returns
returns c = word_exact c.args.field.now c.hex8.result c.hex8.ensures.small c.hex8.ensures.found c.hex8.ensures.none
