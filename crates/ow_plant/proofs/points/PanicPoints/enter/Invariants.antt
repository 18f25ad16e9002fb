use Rattle.std.proofs.Common.{◌≡◌, ◌++◌, map, take, drop}
use Rattle.ow_plant.specs.Points.{entered_by}
use Rattle.ow_plant.proofs.points.PanicPoints.enter.Given as goal

-- the points so far are entered
abbrev pub invariant-loop-point : goal.invariant-loop-point
invariant-loop-point l = l.point-items ≡ map (entered_by l.trap) (take l.point-index l.fn.self) ++ drop l.point-index l.fn.self
