use Rattle.std.proofs.Common.{refl, sym, ◌∙◌}
use Rattle.process_table.specs.declared.choice.Choice.TheVariants as choice
use Rattle.kernel_traps.proofs.KernelServed.{all_ended, idle_next, is_outside, left_by, left_returned, returned_settled, user_lives, user_returned, work_live}
use Rattle.kernel_traps.proofs.TurnUnix.{stays_settled, user_stays}
use Rattle.kernel_traps.proofs.UserServed.{next_then}
use Rattle.kernel_traps.proofs.serving.next_turn.Goals as goal

pub next_in_user-requires-clause-budget : goal.next_in_user-requires-clause-budget
next_in_user-requires-clause-budget c = left_by c.args.plant.now c.requires.budget (user_lives c.args.plant.now c.requires.sound (sym c.in_user.ensures ∙ c.if-in_user.true))

pub returns-then-in_user : goal.returns-then-in_user
returns-then-in_user c =
    let s = c.args.plant.now in
    let in_user = sym c.in_user.ensures ∙ c.if-in_user.true in
    next_then s s c.next_in_user.new.plant c.next_in_user.result (stays_settled s c.requires.sound (user_lives s c.requires.sound in_user) (user_stays s in_user)) in_user c.next_in_user.ensures

pub return_to-requires-clause-process : goal.return_to-requires-clause-process
return_to-requires-clause-process c = is_outside c.args.plant.now c.in-User.slot c.in-User.ensures

pub next_in_user-requires-in-User-clause-budget : goal.next_in_user-requires-in-User-clause-budget
next_in_user-requires-in-User-clause-budget c =
    let s = c.args.plant.now in
    let slot = c.in-User.slot in
    left_returned s c.return_to.new.plant slot c.return_to.ensures.returned
    (left_by s c.requires.budget (work_live s slot (choice.User slot) c.requires.sound c.in-User.ensures))

pub returns-in-User : goal.returns-in-User
returns-in-User c =
    let s = c.args.plant.now in
    let at = c.return_to.new.plant in
    let slot = c.in-User.slot in
    next_then s at c.next_in_user-in-User.new.plant c.next_in_user-in-User.result
    (returned_settled s at slot c.requires.sound (sym c.in_user.ensures ∙ c.if-in_user.false) c.in-User.ensures c.return_to.ensures.returned c.return_to.ensures.sound)
    (user_returned s at slot c.return_to.ensures.returned) c.next_in_user-in-User.ensures

pub returns-in-Idle : goal.returns-in-Idle
returns-in-Idle c = idle_next c.args.plant.now c.requires.sound (sym c.in_user.ensures ∙ c.if-in_user.false) c.in-Idle.ensures

pub returns-in-AllEnded : goal.returns-in-AllEnded
returns-in-AllEnded c = (all_ended c.args.plant.now c.requires.sound c.in-AllEnded.ensures, refl)
