use Rattle.std.proofs.Common.{◌≡◌, drop}
use Rattle.ow_plant.specs.Points.{listed_for}
use Rattle.ow_plant.proofs.points.PanicPoints.listed_for.Given as goal

-- no point so far is of the trap
abbrev pub invariant-loop-point : goal.invariant-loop-point
invariant-loop-point l = listed_for l.trap (drop l.point-index l.self) ≡ listed_for l.trap l.self
