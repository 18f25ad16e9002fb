use Rattle.std.proofs.Common.{◌≡◌, ◌+◌, ◌*◌, ◌∙◌, ap, arith, subst, sym}
use Rattle.ow_plant.specs.State.{IsArmed, PlantState}
use Rattle.ow_plant.proofs.Armed.{IsArmed-stored}
use Rattle.phys_memory.specs.Memory.{frame_count}
use Rattle.phys_memory.proofs.Words.{frame_count-sized}
use Rattle.kernel_tests.proofs.plants.set_words.Goals as goal

pub store-requires-clause-frame : goal.store-requires-clause-frame
store-requires-clause-frame c =
    let s = c.loop-place.plant in
    let count : frame_count s.memory ≡ 1 + 2 * (128 + s.shape.user_frames) = frame_count-sized s.shape.user_frames s.memory c.loop-place.invariant.armed.sized in
    omega arith

pub loop-place-preserved : goal.loop-place-preserved
loop-place-preserved c =
    let s = c.loop-place.plant in
    let stored = c.in-Ok.ensures.ok in
    record {
      armed = subst IsArmed (sym stored) (IsArmed-stored s _ _ _ c.loop-place.invariant.armed);
      free = ap (λ (p : PlantState). p.refusal) stored ∙ c.loop-place.invariant.free;
    }
