use Rattle.std.proofs.Common.{◌≡◌, take}
use Rattle.ow_plant.specs.Points.{points_of}
use Rattle.ow_plant.proofs.points.PanicPoints.of.Given as goal

-- where the panics so far come
abbrev pub invariant-loop-point : goal.invariant-loop-point
invariant-loop-point l = l.all.items ≡ points_of (take l.point-index l.points)
