use Rattle.std.proofs.Common.{◌+◌, arith}
use Rattle.kernel_traps.proofs.BootLayout.{pages_fit, pages_more, start_low}
use Rattle.kernel_traps.proofs.booting.layout.BootedBlueprint.page.Goals as goal

pub first_frame-requires-clause-slot : goal.first_frame-requires-clause-slot
first_frame-requires-clause-slot c =
    let low = start_low c.args.self.now.load.now c.args.slot c.in_ok-program.program.now c.in_ok-program.ensures.some in omega (arith, low)

pub returns-clause-fits : goal.returns-clause-fits
returns-clause-fits c =
    let load = c.args.self.now.load.now in
    let program = c.in_ok-program.program.now in
    let low = start_low load c.args.slot program c.in_ok-program.ensures.some in
    let more = pages_more load c.args.slot program low c.in_ok-program.ensures.some in
    let fit = pages_fit load (c.args.slot + 1) c.requires.stands in
    omega (arith, more, fit, c.in_ok-number.ensures.few, c.first_frame.ensures)
