use Rattle.std.proofs.Common.{◌≡◌, true, sym, subst, ◌∙◌}
use Rattle.ow_plant.specs.State.{PlantState, refuses_leave}
use Rattle.ow_plant.proofs.Room.{plant_leave_refused}
use Rattle.ow_plant.proofs.machine.Plant.leave.Goals as goal

pub invariant_of-self : goal.invariant_of-self
invariant_of-self c =
    plant_leave_refused c.self.inside.armed c.self.inside.user_frames c.self.inside.seen.memory c.self.inside.live c.self.inside.points c.self.inside.reviving c.self.inside.traps c.self.inside.past c.self.inside.lent _ c.self.invariant
    (subst (λ (s : PlantState). refuses_leave s ≡ true) (sym c.self.view_is) (sym c.refuses_leave.ensures.value ∙ c.if-refuses_leave.true)) c.refuse.ensures.stands
