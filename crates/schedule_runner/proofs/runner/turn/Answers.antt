use Rattle.std.proofs.Common.{◌≡◌, ◌∙◌, ◌<◌, ◌≤◌, ℕ, Some, Ok, sym, subst, arith}
use Rattle.std.proofs.lemmas.Grind.{common_steps}
use Rattle.ow_base.specs.declared.machine.Panicked.{Panicked}
use Rattle.ow_base.specs.declared.machine.Shape.{Shape}
use Rattle.ow_base.specs.declared.worlds.Ending.TheVariants.{Done}
use Rattle.ow_plant.specs.State.{PlantState}
use Rattle.record_layouts.specs.Unix.Turn.{ending_of}
use Rattle.kernel_traps.specs.Plants.{unix_at}
use Rattle.kernel_traps.specs.Traps.{HasPassed, IsAllEnded}
use Rattle.kernel_traps.specs.declared.turns.Turn.{Turn}
use Rattle.kernel_traps.specs.declared.turns.Turn.TheVariants as turns
use Rattle.kernel_traps.specs.Turning.{IsSomeLive, IsTurn}
use Rattle.schedule_runner.specs.Progress.{AreInOrder}
use Rattle.schedule_runner.proofs.Running.{comes_on, goes, is_budget, is_done, live_by, made_turn, none_in_step, none_passed, order_passed, some_live, some_room, turn_nearer}
use Rattle.schedule_runner.proofs.Panicking.{comes_through, panic_nearer, turn_panicked}
use Rattle.schedule_runner.proofs.runner.turn.Goals.{else-steps-load-via-then-steps-load+else-not-all_have_ended, else-steps-load-via-else-steps-load}
use Rattle.schedule_runner.proofs.runner.turn.Goals as goal

pub returns-then-not-all_have_ended-clause-ends : goal.returns-then-not-all_have_ended-clause-ends
returns-then-not-all_have_ended-clause-ends c =
    let s = c.args.plant.now in
    let live : IsSomeLive s = live_by s c.all_have_ended.result c.all_have_ended.ensures (grind (arith, common_steps)) in
    is_budget c.args.load.now.shape s live (sym c.steps.ensures ∙ c.if-steps-load.true)

pub serve_panic-requires-clause-room : goal.serve_panic-requires-clause-room
serve_panic-requires-clause-room c = some_room c.args.load.now c.requires.come.0 c.args.plant.now c.args.log.now c.requires.come.1 c.in-Err.ensures.allowed

pub returns-in-Ok-AllEnded-clause-ends : goal.returns-in-Ok-AllEnded-clause-ends
returns-in-Ok-AllEnded-clause-ends c =
    let s = c.args.plant.now in
    let is : IsTurn s c.serve_trap.new.plant turns.AllEnded = subst (IsTurn s c.serve_trap.new.plant) c.in-Ok-AllEnded.field-0-is c.in-Ok-AllEnded.ensures.ok in
    subst (λ (t : PlantState). ending_of c.args.load.now.shape (unix_at t) ≡ Some Done) (sym is.1) (is_done c.args.load.now.shape s is.0)

pub returns-in-Ok-Step : goal.returns-in-Ok-Step
returns-in-Ok-Step c =
    let s = c.args.plant.now in
    let t = c.serve_trap.new.plant in
    let load = c.args.load.now in
    let log = c.args.log.now in
    let is : IsTurn s t turns.Step = subst (IsTurn s t) c.in-Ok-Step.field-0-is c.in-Ok-Step.ensures.ok in
    let live : IsSomeLive s = some_live s (λ ended. subst (λ (turn : Turn). IsAllEnded {E = Panicked} (Ok turn)) c.in-Ok-Step.field-0-is (c.in-Ok-Step.ensures.ended ended)) in
    let nearer = turn_nearer load c.requires.come.0 s log c.requires.come.1 t is.0 in
    record {
      come = λ points come. comes_on load points s log come t live is.0 (omega (arith, is.1)) (subst (λ (n : ℕ). AreInOrder 1 n s.points) (sym is.1) come.order)
          (none_in_step load points s log come t (goes load points s log come t live is.0) (made_turn load points s log come t is.0) is.1);
      ends = tt;
      no_farther = omega (arith, nearer);
      nearer = nearer;
    }

pub returns-in-Ok-Trap : goal.returns-in-Ok-Trap
returns-in-Ok-Trap c =
    let s = c.args.plant.now in
    let t = c.serve_trap.new.plant in
    let load = c.args.load.now in
    let log = c.args.log.now in
    let is : IsTurn s t turns.Trap = subst (IsTurn s t) c.in-Ok-Trap.field-0-is c.in-Ok-Trap.ensures.ok in
    let passed : HasPassed s turns.Trap = subst (HasPassed s) c.in-Ok-Trap.field-0-is c.in-Ok-Trap.ensures.passed in
    let live : IsSomeLive s = some_live s (λ ended. subst (λ (turn : Turn). IsAllEnded {E = Panicked} (Ok turn)) c.in-Ok-Trap.field-0-is (c.in-Ok-Trap.ensures.ended ended)) in
    let nearer = turn_nearer load c.requires.come.0 s log c.requires.come.1 t is.0 in
    record {
      come = λ points come. comes_on load points s log come t live is.0 (omega (arith, is.1))
          (subst (λ (n : ℕ). AreInOrder 1 n s.points) (sym is.1) (order_passed load points s log come passed)) (none_passed load points s log come passed);
      ends = tt;
      no_farther = omega (arith, nearer);
      nearer = nearer;
    }

left_steps : (c : goal.After-serve_panic) → c.args.plant.now.steps < c.args.load.now.shape.budget
left_steps c =
    let s = c.args.plant.now in
    let come = c.requires.come.1 in
    let most : s.steps ≤ c.args.load.now.shape.budget = subst (λ (m : Shape). s.steps ≤ m.budget) come.shape come.sound.budget in
    elim c.else-steps-load.branch [
      | else-steps-load-via-then-steps-load+else-not-all_have_ended w ↦ absurd (c.in-Err.ensures.ended (w.all_have_ended.ensures.0 (grind (arith, common_steps))))
      | else-steps-load-via-else-steps-load w ↦ grind (arith, common_steps, most)
    ]

pub returns-in-Err-clause-come : goal.returns-in-Err-clause-come
returns-in-Err-clause-come c = λ points come.
    let s = c.args.plant.now in
    comes_through c.args.load.now points s c.args.log.now come c.in-Err.ensures.err.1 c.serve_trap.new.plant c.serve_panic.new.plant c.serve_panic.new.log
    (turn_panicked c.args.load.now points s c.args.log.now come c.serve_trap.new.plant c.serve_panic.new.plant c.serve_panic.new.log c.in-Err.ensures.allowed
    c.refusals_are_exact.ensures.store c.refusals_are_exact.ensures.leave c.serve_panic.ensures (left_steps c) c.in-Err.ensures.err)

pub returns-in-Err-clause-nearer : goal.returns-in-Err-clause-nearer
returns-in-Err-clause-nearer c =
    let s = c.args.plant.now in
    let points = c.requires.come.0 in
    let come = c.requires.come.1 in
    panic_nearer c.args.load.now points s c.args.log.now come c.in-Err.ensures.err.1 c.serve_trap.new.plant c.serve_panic.new.plant c.serve_panic.new.log
    (turn_panicked c.args.load.now points s c.args.log.now come c.serve_trap.new.plant c.serve_panic.new.plant c.serve_panic.new.log c.in-Err.ensures.allowed
    c.refusals_are_exact.ensures.store c.refusals_are_exact.ensures.leave c.serve_panic.ensures (left_steps c) c.in-Err.ensures.err)

pub returns-in-Err-clause-no_farther : goal.returns-in-Err-clause-no_farther
returns-in-Err-clause-no_farther c = let nearer = returns-in-Err-clause-nearer c in omega (arith, nearer)
