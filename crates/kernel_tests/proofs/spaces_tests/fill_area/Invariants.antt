use Rattle.std.proofs.Common.{◌≡◌, None}
use Rattle.ow_plant.specs.State.{IsArmed}
use Rattle.kernel_tests.proofs.spaces_tests.fill_area.Given as goal

-- no store was refused
abbrev pub invariant-loop-number : goal.invariant-loop-number
invariant-loop-number l = record {
  armed : IsArmed l.plant;
  free : l.plant.refusal ≡ None;
}
