use Rattle.std.proofs.Common.{◌≡◌, ℕ, ◌<◌, length, slice_get, Some, IfSome}
use Rattle.dead_reader.specs.Left.{handed_of, records_left}
use Rattle.resurrector.specs.Procedures.{HasFewBits}
use Rattle.resurrector.specs.Survivors.{IsSurvivor, fate_in, outcome_in, survivor_in}
use Rattle.resurrector.proofs.survivors.outcomes.Given as goal

abbrev pub invariant-loop-slot : goal.invariant-loop-slot
invariant-loop-slot g l =
    let r = records_left (g.M.DeadMemory.dead l.view.memory.now) (g.M.WordSource.words l.view.memory.now) in
    let handed = handed_of (g.M.DeadMemory.dead l.view.memory.now).handover in
    record {
      long : length l.outcomes ≡ 16;
      each : (slot : ℕ) → slot < l.slot → slice_get l.outcomes slot ≡ Some (outcome_in r handed slot);
      fits : (slot : ℕ) → slot < l.slot → IfSome (survivor_in r handed slot) IsSurvivor;
      few : (slot : ℕ) → slot < l.slot → HasFewBits (fate_in r handed slot);
    }
