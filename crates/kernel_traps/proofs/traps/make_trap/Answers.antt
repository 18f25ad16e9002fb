use Rattle.syscalls.specs.Serving.{plan_of}
use Rattle.word_store.proofs.Outcomes.{on_err}
use Rattle.kernel_traps.proofs.LeftTurns.{left_from}
use Rattle.kernel_traps.proofs.TrapKinds.{has_begun, trap_begun, trap_done, trap_ends, trap_refused, trap_served}
use Rattle.kernel_traps.proofs.traps.make_trap.Goals as goal

pub end_trap-requires-clause-trap : goal.end_trap-requires-clause-trap
end_trap-requires-clause-trap c =
    let s = c.args.plant.now in
    let b = c.enter.new.self in
    let t = c.args.trap in
    let slot = c.slot_for-slot.result in
    let plan = plan_of c.service_for-service.result in
    trap_begun s b t slot plan (has_begun s b t c.came.result c.pid.result c.unwrap_or.result slot plan c.enter.ensures c.came.ensures c.pid.ensures c.unwrap_or.ensures
    (record { sound = c.requires.sound; within = c.requires.within; most = c.fits_shape.ensures.few_steps; few = c.requires.traps })
    c.slot_for-slot.ensures c.service_for-service.ensures.plan)

pub end_trap-requires-clause-plan : goal.end_trap-requires-clause-plan
end_trap-requires-clause-plan c =
    let s = c.args.plant.now in
    let b = c.enter.new.self in
    let t = c.args.trap in
    let slot = c.slot_for-slot.result in
    let plan = plan_of c.service_for-service.result in
    trap_ends s b t slot plan (has_begun s b t c.came.result c.pid.result c.unwrap_or.result slot plan c.enter.ensures c.came.ensures c.pid.ensures c.unwrap_or.ensures
    (record { sound = c.requires.sound; within = c.requires.within; most = c.fits_shape.ensures.few_steps; few = c.requires.traps })
    c.slot_for-slot.ensures c.service_for-service.ensures.plan)

pub end_trap-requires-clause-can : goal.end_trap-requires-clause-can
end_trap-requires-clause-can c =
    let s = c.args.plant.now in
    let b = c.enter.new.self in
    let t = c.args.trap in
    let slot = c.slot_for-slot.result in
    let plan = plan_of c.service_for-service.result in
    trap_served s b t slot plan (has_begun s b t c.came.result c.pid.result c.unwrap_or.result slot plan c.enter.ensures c.came.ensures c.pid.ensures c.unwrap_or.ensures
    (record { sound = c.requires.sound; within = c.requires.within; most = c.fits_shape.ensures.few_steps; few = c.requires.traps })
    c.slot_for-slot.ensures c.service_for-service.ensures.plan)

pub returns-clause-ok : goal.returns-clause-ok
returns-clause-ok c =
    let s = c.args.plant.now in
    let b = c.enter.new.self in
    let t = c.args.trap in
    let slot = c.slot_for-slot.result in
    let plan = plan_of c.service_for-service.result in
    let has = has_begun s b t c.came.result c.pid.result c.unwrap_or.result slot plan c.enter.ensures c.came.ensures c.pid.ensures c.unwrap_or.ensures
    (record { sound = c.requires.sound; within = c.requires.within; most = c.fits_shape.ensures.few_steps; few = c.requires.traps })
    c.slot_for-slot.ensures c.service_for-service.ensures.plan in
    trap_done c.end_trap.result s b c.end_trap.new.plant t slot c.service_for-service.result has c.requires.due.mode c.service_for-service.ensures.doable c.end_trap.ensures.ok c.end_trap.ensures.sound

pub returns-clause-left : goal.returns-clause-left
returns-clause-left c =
    let s = c.args.plant.now in
    let b = c.enter.new.self in
    let t = c.args.trap in
    let slot = c.slot_for-slot.result in
    let plan = plan_of c.service_for-service.result in
    let has = has_begun s b t c.came.result c.pid.result c.unwrap_or.result slot plan c.enter.ensures c.came.ensures c.pid.ensures c.unwrap_or.ensures
    (record { sound = c.requires.sound; within = c.requires.within; most = c.fits_shape.ensures.few_steps; few = c.requires.traps })
    c.slot_for-slot.ensures c.service_for-service.ensures.plan in
    on_err c.end_trap.result _ _ (left_from s c.end_trap.new.plant t has.may c.requires.due)
    (trap_refused c.end_trap.result s b c.end_trap.new.plant t slot plan has c.end_trap.ensures.err c.end_trap.ensures.unstored c.end_trap.ensures.stands)
