use Rattle.std.proofs.Common.{refl, sym, subst, ap, ◌∙◌}
use Rattle.kernel_traps.specs.Plants.{IsSound, unix_at}
use Rattle.schedule_runner.specs.Revivals.{IsResurrected}
use Rattle.schedule_runner.proofs.FlightRoom.{has_room}
use Rattle.schedule_runner.proofs.Refused.{at_err, refused_later}
use Rattle.schedule_runner.proofs.Revivals.{fates_same, sound_after, unix_after}
use Rattle.schedule_runner.proofs.reviving.revive.Goals as goal

pub resurrect-requires-clause-room : goal.resurrect-requires-clause-room
resurrect-requires-clause-room c = has_room c.args.plant.now c.requires.broken.0 c.requires.broken.1 c.fits_shape.ensures.room

made : (c : goal.In_ok-take_over) → IsResurrected c.args.plant.now c.resurrect.new.plant
made c =
    let told = c.in_ok-revival.ensures in
    record {
      armed = told.armed;
      able = told.stays;
      rest = told.rest;
      shape = told.shape;
      built = told.built;
      tape0 = told.tape0;
      tape1 = told.tape1;
      shown0 = told.shown0;
      shown1 = told.shown1;
    }

pub returns-clause-sound : goal.returns-clause-sound
returns-clause-sound c =
    subst IsSound (sym c.in_ok-take_over.ensures.ok) (sound_after c.args.plant.now c.resurrect.new.plant c.requires.broken.0 c.requires.broken.1 (made c))

pub returns-clause-unix : goal.returns-clause-unix
returns-clause-unix c = λ h broken.
    ap unix_at c.in_ok-take_over.ensures.ok ∙ unix_after c.args.plant.now c.resurrect.new.plant h broken (made c)

pub returns-clause-fates : goal.returns-clause-fates
returns-clause-fates c = λ h broken. c.in_ok-revival.ensures.fates ∙ fates_same c.args.plant.now h broken

pub returns-in_err-take_over-clause-allowed : goal.returns-in_err-take_over-clause-allowed
returns-in_err-take_over-clause-allowed c =
    at_err c.from_residual-in_err-take_over.result _
    (refused_later c.args.plant.now c.resurrect.new.plant c.in_ok-revival.ensures.rest c.in_ok-revival.ensures.armed c.in_ok-revival.ensures.stays
    (c.in_err-take_over.ensures.exact.1 refl))

pub returns-in_err-take_over-clause-cause : goal.returns-in_err-take_over-clause-cause
returns-in_err-take_over-clause-cause c =
    at_err c.from_residual-in_err-take_over.result _ (c.in_err-take_over.ensures.cause c.in_ok-revival.ensures.stays)
