use Rattle.std.proofs.Common.{OnErr, subst}
use Rattle.record_layouts.specs.declared.traps.Trap.{Trap}
use Rattle.kernel_traps.specs.Broken.{IsLeftFrom}
use Rattle.kernel_traps.specs.Plants.{unix_at}
use Rattle.kernel_traps.proofs.KernelServed.{closed_by}
use Rattle.kernel_traps.proofs.serving.shutdown.Goals as goal

pub returns-clause-ok : goal.returns-clause-ok
returns-clause-ok c = closed_by c.make_trap.result c.args.plant.now c.make_trap.new.plant c.closing_in-trap.result c.closing_in-trap.ensures.same c.make_trap.ensures.ok

-- the closing trap begins from the state as it is
pub returns-clause-err : goal.returns-clause-err
returns-clause-err c =
    let s = c.args.plant.now in
    subst (λ (t : Trap). OnErr c.make_trap.result (IsLeftFrom (unix_at s) s t c.make_trap.new.plant)) c.closing_in-trap.ensures.same c.make_trap.ensures.left
