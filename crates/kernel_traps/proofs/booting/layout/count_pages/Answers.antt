use Rattle.std.proofs.Common.{arith}
use Rattle.kernel_traps.proofs.BootLayout.{pages_more}
use Rattle.kernel_traps.proofs.booting.layout.count_pages.Goals as goal

pub returns : goal.returns
returns c =
    let more = pages_more c.args.load.now c.args.slot c.started.result.now c.requires.slot c.started.ensures.is in
    omega (arith, more, c.count_low.ensures.is)
