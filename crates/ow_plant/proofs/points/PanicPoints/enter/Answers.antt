use Rattle.std.proofs.Common.{rules}
use Rattle.std.proofs.lemmas.List.Edits.{map_over_more}
use Rattle.ow_plant.specs.Points.{entered_by}
use Rattle.ow_plant.proofs.points.PanicPoints.enter.Goals as goal

pub loop-point-preserved : goal.loop-point-preserved
loop-point-preserved c = rw c.after.ensures (map_over_more (entered_by c.args.trap) _ _ c.loop-point.point-index _ (search rules) c.loop-point.invariant (search rules))
