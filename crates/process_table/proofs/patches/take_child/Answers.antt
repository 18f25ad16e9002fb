use Rattle.process_table.proofs.Ended.{free_fits}
use Rattle.process_table.proofs.patches.take_child.Goals as goal

pub put-requires-clause-item : goal.put-requires-clause-item
put-requires-clause-item c =
    rw c.free_process.ensures (record { there = c.requires.place; kind = tt; fits = free_fits })
