use Rattle.std.proofs.Common.{◌≡◌, true}
use Rattle.machine_tests.proofs.ow_plant_tests.write.Given as goal

-- the plant stays armed, with the same room
abbrev pub invariant-loop-byte : goal.invariant-loop-byte
invariant-loop-byte l = record {
  armed : l.plant.armed ≡ true;
  room : l.plant.tty1.room ≡ 3200;
}
