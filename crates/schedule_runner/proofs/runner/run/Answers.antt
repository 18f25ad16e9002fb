use Rattle.std.proofs.Common.{◌≡◌, ◌∙◌, Some, sym, subst}
use Rattle.ow_base.specs.declared.machine.Shape.{Shape}
use Rattle.record_layouts.specs.Unix.Turn.{ending_of}
use Rattle.kernel_traps.specs.Plants.{unix_at}
use Rattle.schedule_runner.specs.Progress.{HasEnded}
use Rattle.schedule_runner.proofs.Running.{comes_first}
use Rattle.schedule_runner.proofs.runner.run.Goals as goal

pub loop-ending-init : goal.loop-ending-init
loop-ending-init c =
    comes_first c.args.load.now c.args.plant.now c.boot.new.plant c.args.log.now c.requires.ready c.fits_shape.ensures.few_steps c.requires.points c.requires.empty c.requires.room
    c.boot.ensures.sound c.boot.ensures.same c.boot.ensures.started

has_ended : (c : goal.Then-close) → HasEnded c.args.load.now c.args.plant.now.points c.in-Some.ending c.close.new.plant c.close.new.log
has_ended c =
    let come = c.turn.ensures.come c.args.plant.now.points c.loop-ending.invariant in
    c.close.ensures.ended c.args.load.now c.args.plant.now.points c.in-Some.ending come
    (subst (λ (m : Shape). ending_of m (unix_at c.turn.new.plant) ≡ Some c.in-Some.ending) (sym come.shape) c.in-Some.ensures.ends) c.if-close.true

pub returns-then-close-clause-sound : goal.returns-then-close-clause-sound
returns-then-close-clause-sound c = (has_ended c).sound

pub returns-then-close-clause-shape : goal.returns-then-close-clause-shape
returns-then-close-clause-shape c = (has_ended c).shape ∙ sym c.requires.ready.of_shape

pub returns-then-close-clause-points : goal.returns-then-close-clause-points
returns-then-close-clause-points c = (has_ended c).lines

pub loop-ending-preserved-else-close : goal.loop-ending-preserved-else-close
loop-ending-preserved-else-close c =
    c.close.ensures.come c.args.load.now c.args.plant.now.points (c.turn.ensures.come c.args.plant.now.points c.loop-ending.invariant) c.if-close.false
