use Rattle.ow_plant.specs.declared.UserEnd.TheVariants as end
use Rattle.kernel_traps.proofs.UserServed.{next_in}
use Rattle.kernel_traps.proofs.user.next_in_user.Goals as goal

pub returns-in-Slice : goal.returns-in-Slice
returns-in-Slice c = next_in c.args.plant.now c.user_step.new.plant c.user_pid-pid.result end.Slice c.requires.in_user c.user_pid-pid.ensures c.in-Slice.ensures

pub returns-in-Call : goal.returns-in-Call
returns-in-Call c = next_in c.args.plant.now c.user_step.new.plant c.user_pid-pid.result end.Call c.requires.in_user c.user_pid-pid.ensures c.in-Call.ensures

pub returns-in-Fault : goal.returns-in-Fault
returns-in-Fault c =
    next_in c.args.plant.now c.user_step.new.plant c.user_pid-pid.result (end.Fault c.in-Fault.fault) c.requires.in_user c.user_pid-pid.ensures c.in-Fault.ensures
