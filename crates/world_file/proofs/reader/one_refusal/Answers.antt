use Rattle.world_file.proofs.WorldRefused.{one_refusal_of}
use Rattle.world_file.proofs.reader.one_refusal.Goals as goal

pub returns : goal.returns
returns c = one_refusal_of
