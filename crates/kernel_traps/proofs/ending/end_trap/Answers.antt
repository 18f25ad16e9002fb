use Rattle.std.proofs.Common.{rules, ◌≡◌, ℕ, OnOk, OnErr, sym, subst}
use Rattle.ow_base.specs.Sv32.{WordMap}
use Rattle.record_layouts.specs.declared.places.RecordId.TheVariants as id
use Rattle.record_layouts.specs.Held.{Records}
use Rattle.syscalls.specs.Serving.{IsDoable, plan_of}
use Rattle.syscalls.specs.declared.service.Service.{Service}
use Rattle.syscalls.specs.declared.service.Service.TheVariants as service
use Rattle.ow_plant.specs.State.{PlantState, leave_refused, left_trap}
use Rattle.word_store.proofs.Outcomes.{on_err, on_ok}
use Rattle.intent_store.specs.Live.{IsStanding, IsUnstored, held_of}
use Rattle.kernel_traps.specs.Plants.{IsSound}
use Rattle.kernel_traps.specs.Carrying.{HasRoomFor, IsCarriedOut}
use Rattle.kernel_traps.proofs.Carried.{IsShort, carried_sound, has_room}
use Rattle.kernel_traps.proofs.ending.end_trap.Goals as goal

-- a service that can be done writes at most 16 bytes
short : (r : Records) (words : WordMap) (slot : ℕ) (s : Service) → IsDoable r words slot s → IsShort (plan_of s)
short r words slot (service.Once patch) doable = tt
short r words slot (service.TtyWrite tty from len patch) doable = (doable.1.terminal, doable.1.most)
short r words slot (service.Grow count patch) doable = tt
short r words slot (service.Fork child patch) doable = tt
short r words slot (service.PutStatus address status patch) doable = tt

-- an end that is refused changes nothing that is held
unstored_end : (s done : PlantState) → IsUnstored s done → IsUnstored s (leave_refused done)
unstored_end s done is = is

stands_end : (done : PlantState) → IsStanding done → IsStanding (leave_refused done)
stands_end done is = record {
  armed = record { armed = is.armed.armed; sized = is.armed.sized; few_frames = is.armed.few_frames };
  decodes = is.decodes;
}

pub carry_out-requires-clause-stands : goal.carry_out-requires-clause-stands
carry_out-requires-clause-stands c =
    subst IsStanding (sym c.new-live.ensures.plant)
    (record { armed = c.requires.trap.1.held.armed; decodes = c.requires.trap.1.held.records.complete id.Head tt })

pub carry_out-requires-clause-room : goal.carry_out-requires-clause-room
carry_out-requires-clause-room c =
    subst (λ (s : PlantState). HasRoomFor s (plan_of c.args.service.now)) (sym c.new-live.ensures.plant)
    (has_room c.args.plant.now c.requires.trap.0 (plan_of c.args.service.now) c.requires.trap.1 c.requires.trap.2 c.fits_shape.ensures.room)

pub returns-clause-sound : goal.returns-clause-sound
returns-clause-sound c =
    let done : PlantState = c.carry_out.new.live.plant.now in
    let carried : IsCarriedOut c.args.plant.now c.args.slot (plan_of c.args.service.now) (held_of done) =
    subst (λ (s : PlantState). IsCarriedOut s c.args.slot (plan_of c.args.service.now) (held_of done)) c.new-live.ensures.plant c.in_ok-carry_out.ensures.ok in
    let sound : IsSound (left_trap done) =
    carried_sound c.args.plant.now done c.requires.trap.0 c.args.slot (plan_of c.args.service.now) c.requires.trap.1 c.fits_shape.ensures.few_steps c.requires.trap.2 c.requires.plan
    (short _ _ _ c.args.service.now c.requires.doable) carried c.in_ok-carry_out.ensures.stays c.in_ok-carry_out.ensures.shut c.carry_out.ensures.still_stands in
    let ended : OnOk c.leave.result (c.leave.new.self ≡ left_trap done) = search rules in
    on_ok c.leave.result (c.leave.new.self ≡ left_trap done) (IsSound c.leave.new.self) (λ is. subst IsSound (sym is) sound) ended

pub returns-clause-unstored : goal.returns-clause-unstored
returns-clause-unstored c =
    let done : PlantState = c.carry_out.new.live.plant.now in
    let kept : IsUnstored c.args.plant.now done = subst (λ (s : PlantState). IsUnstored s done) c.new-live.ensures.plant c.carry_out.ensures.unstored in
    let refused : OnErr c.leave.result (c.leave.new.self ≡ leave_refused done) = search rules in
    on_err c.leave.result _ (IsUnstored c.args.plant.now c.leave.new.self) (λ is. subst (IsUnstored c.args.plant.now) (sym is) (unstored_end c.args.plant.now done kept)) refused

pub returns-clause-stands : goal.returns-clause-stands
returns-clause-stands c =
    let done : PlantState = c.carry_out.new.live.plant.now in
    let refused : OnErr c.leave.result (c.leave.new.self ≡ leave_refused done) = search rules in
    on_err c.leave.result _ (IsStanding c.leave.new.self) (λ is. subst IsStanding (sym is) (stands_end done c.carry_out.ensures.still_stands)) refused
