use Rattle.resurrector.proofs.Reviving.{dead_there}
use Rattle.resurrector.proofs.survivors.fate_and_survivor.Goals as goal

pub revive_left-process-requires : goal.revive_left-process-requires
revive_left-process-requires g c = dead_there _ _ c.args.slot c.in-Some.left c.in-Some.ensures.there
