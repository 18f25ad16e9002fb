use Rattle.std.proofs.Common.{◌∙◌, sym}
use Rattle.kernel_traps.proofs.KernelServed.{kernel_closing, kernel_closing_is, user_closing, user_closing_is}
use Rattle.kernel_traps.proofs.serving.closing_in.Goals as goal

pub returns-then-in_user-clause-same : goal.returns-then-in_user-clause-same
returns-then-in_user-clause-same c = user_closing_is c.args.plant.now c.user_pid.result (sym c.in_user.ensures ∙ c.if-in_user.true) c.user_pid.ensures

pub returns-then-in_user-clause-due : goal.returns-then-in_user-clause-due
returns-then-in_user-clause-due c = user_closing c.args.plant.now c.user_pid.result c.requires.sound (sym c.in_user.ensures ∙ c.if-in_user.true) c.user_pid.ensures

pub returns-else-in_user-clause-same : goal.returns-else-in_user-clause-same
returns-else-in_user-clause-same c = kernel_closing_is c.args.plant.now (sym c.in_user.ensures ∙ c.if-in_user.false)

pub returns-else-in_user-clause-due : goal.returns-else-in_user-clause-due
returns-else-in_user-clause-due c = kernel_closing c.args.plant.now c.requires.sound (sym c.in_user.ensures ∙ c.if-in_user.false)
