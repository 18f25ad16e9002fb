use Rattle.process_table.proofs.Ended.{ended_fits}
use Rattle.process_table.proofs.patches.ending.Goals as goal

pub served-patch-requires-clause-process : goal.served-patch-requires-clause-process
served-patch-requires-clause-process c =
    rw c.ended.ensures (ended_fits c.args.process.now c.args.status c.requires.process c.requires.live c.requires.status)
