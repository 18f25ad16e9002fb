use Rattle.std.proofs.Common.{◌≡◌, true}
use Rattle.machine_tests.proofs.ow_plant_tests.serve.Given as goal

-- the plant stays armed, and nothing is written on its terminals
abbrev pub invariant-loop-word : goal.invariant-loop-word
invariant-loop-word l = record {
  armed : l.plant.armed ≡ true;
  silent : l.plant.tty1 ≡ l.fn.plant.tty1;
}
