use Rattle.world_file.proofs.WorldLaws.{built_is_not_refused}
use Rattle.world_file.proofs.reader.worlds_are_read.Goals as goal

pub returns : goal.returns
returns c = built_is_not_refused
