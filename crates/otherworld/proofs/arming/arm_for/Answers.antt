use Rattle.std.proofs.Common.{map, ◌∙◌, ap, sym, subst, List}
use Rattle.ow_base.specs.declared.worlds.PanicLine.{PanicLine}
use Rattle.ow_base.specs.declared.worlds.Point.{Point}
use Rattle.ow_plant.specs.Points.{ArePoints, points_of}
use Rattle.otherworld.specs.Arming.{point_of}
use Rattle.otherworld.proofs.ArmedWorlds.{armed_for, points_are}
use Rattle.otherworld.proofs.arming.arm_for.Goals as goal

pub arm-requires-clause-points : goal.arm-requires-clause-points
arm-requires-clause-points c =
    let listed = c.as_slice.ensures.value ∙ c.in_ok-points.ensures ∙ ap (λ (panics : List PanicLine). map point_of panics) c.items.ensures in
    subst (λ (points : List Point). ArePoints points) (sym listed) (points_are c.requires.value.0 c.args.world.now c.requires.value.1 c.requires.built)

pub returns-clause-armed : goal.returns-clause-armed
returns-clause-armed c =
    let listed = c.as_slice.ensures.value ∙ c.in_ok-points.ensures ∙ ap (λ (panics : List PanicLine). map point_of panics) c.items.ensures in
    armed_for c.requires.value.0 c.args.world.now c.requires.value.1 c.requires.built c.arm.new.self c.in_ok-log.log
    c.in_ok-arm.ensures.ok (c.in_ok-arm.ensures.points ∙ ap (λ (points : List Point). points_of points) listed) c.in_ok-log.ensures
