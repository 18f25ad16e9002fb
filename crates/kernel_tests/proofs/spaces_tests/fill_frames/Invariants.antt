use Rattle.std.proofs.Common.{◌≡◌, None}
use Rattle.ow_plant.specs.State.{IsArmed}
use Rattle.kernel_tests.proofs.spaces_tests.fill_frames.Given as goal

-- no store was refused
abbrev pub invariant-loop-place : goal.invariant-loop-place
invariant-loop-place l = record {
  armed : IsArmed l.plant;
  free : l.plant.refusal ≡ None;
}
