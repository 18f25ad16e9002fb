use Rattle.word_store.proofs.Outcomes.{at_err}
use Rattle.kernel_traps.proofs.KernelServed.{trap_turned}
use Rattle.kernel_traps.proofs.LeftTurns.{turn_left}
use Rattle.kernel_traps.proofs.serving.serve_trap.Goals as goal

pub returns-in_ok-make_trap-in-Trap-clause-ok : goal.returns-in_ok-make_trap-in-Trap-clause-ok
returns-in_ok-make_trap-in-Trap-clause-ok c =
    trap_turned c.args.plant.now c.next_turn.new.plant c.make_trap.new.plant c.in-Trap.trap c.in-Trap.ensures c.in_ok-make_trap-in-Trap.ensures.ok

pub returns-in_err-make_trap-in-Trap-clause-err : goal.returns-in_err-make_trap-in-Trap-clause-err
returns-in_err-make_trap-in-Trap-clause-err c =
    at_err c.from_residual.result _
    (turn_left c.args.plant.now c.next_turn.new.plant c.make_trap.new.plant c.in-Trap.trap c.in-Trap.ensures c.in_err-make_trap-in-Trap.ensures.left)
