use Rattle.kernel_traps.proofs.BootLayout.{start_there}
use Rattle.kernel_traps.proofs.booting.layout.started.Goals as goal

pub unreachable-requires : goal.unreachable-requires
unreachable-requires c =
    let there = start_there c.args.load.now c.args.slot c.requires.load c.requires.slot in
    cc (there.1, c.in_default.ensures.none)
