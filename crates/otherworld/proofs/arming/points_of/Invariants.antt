use Rattle.std.proofs.Common.{◌≡◌, take, map}
use Rattle.otherworld.specs.Arming.{point_of}
use Rattle.otherworld.proofs.arming.points_of.Given as goal

-- the points of the panics so far
abbrev pub invariant-loop-panic : goal.invariant-loop-panic
invariant-loop-panic l = l.points.items ≡ map point_of (take l.panic-index l.panics)
