use Rattle.kernel_tests.specs.Small.{small_can_call}
use Rattle.kernel_tests.proofs.small_view.SmallView.can_call.Goals as goal

pub returns : goal.returns
returns c = small_can_call c.args.self.now.inside c.args.self.now.reads_only c.args.self.now.call c.args.self.now.done c.args.self.now.regs
