-- A text has at most one world.
use Rattle.world_file.proofs.WorldUnique.{one_world}
use Rattle.world_file.proofs.reader.one_world.Goals as goal

pub returns : goal.returns
returns c = one_world
