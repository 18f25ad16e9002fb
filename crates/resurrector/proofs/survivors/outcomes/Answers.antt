use Rattle.std.proofs.Common.{ℕ, IfSome, subst, arith}
use Rattle.dead_reader.specs.Left.{handed_of, records_left}
use Rattle.record_layouts.specs.Halves.{half_map}
use Rattle.resurrector.specs.Procedures.{HasFewBits}
use Rattle.resurrector.specs.Survivors.{IsSurvivor, fate_in, outcome_in, survivor_in}
use Rattle.resurrector.specs.declared.survivors.Outcome.{Outcome}
use Rattle.resurrector.proofs.Outcomes.{added_all, added_each, frames_few, no_owner, stays_long}
use Rattle.resurrector.proofs.survivors.outcomes.Goals as goal

pub loop-slot-preserved : goal.loop-slot-preserved
loop-slot-preserved g c =
    let dead = g.M.DeadMemory.dead c.args.view.now.memory.now in
    let r = records_left dead (g.M.WordSource.words c.args.view.now.memory.now) in
    let handed = handed_of dead.handover in
    let before = c.loop-slot.invariant in
    let slot = c.loop-slot.slot in
    let is = c.outcome_of.ensures.is in
    record {
      long = stays_long c.loop-slot.outcomes slot c.outcome_of.result before.long;
      each = added_each (outcome_in r handed) c.loop-slot.outcomes slot c.outcome_of.result (omega (arith, before.long, c.loop-slot-test.true)) before.each is;
      fits = added_all (λ (s : ℕ). IfSome (survivor_in r handed s) IsSurvivor) slot before.fits
          (subst (λ (o : Outcome). IfSome o.survivor IsSurvivor) is c.outcome_of.ensures.fits);
      few = added_all (λ (s : ℕ). HasFewBits (fate_in r handed s)) slot before.few
          (subst (λ (o : Outcome). HasFewBits o.fate) is c.outcome_of.ensures.few);
    }

pub returns : goal.returns
returns g c =
    let dead = g.M.DeadMemory.dead c.args.view.now.memory.now in
    let end = c.loop-slot-test.false in
    record {
      each = λ slot less. c.loop-slot.invariant.each slot (omega (arith, less, end));
      fits = λ slot less. c.loop-slot.invariant.fits slot (omega (arith, less, end));
      few = λ slot less. c.loop-slot.invariant.few slot (omega (arith, less, end));
      few_frames = frames_few (half_map dead.area dead.user_frames dead.sectors) (g.M.WordSource.words c.args.view.now.memory.now) c.requires;
      owned = no_owner (half_map dead.area dead.user_frames dead.sectors) (g.M.WordSource.words c.args.view.now.memory.now);
    }
