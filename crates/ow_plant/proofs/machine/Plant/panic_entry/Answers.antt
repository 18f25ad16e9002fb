use Rattle.std.proofs.Common.{◌≡◌, true, false, is_some, ap, ◌∙◌}
use Rattle.ow_plant.specs.State.{PlantState}
use Rattle.ow_plant.proofs.Room.{plant_has_room, plant_panicked}
use Rattle.ow_plant.proofs.machine.Plant.panic_entry.Goals as goal

pub add-requires-clause-room : goal.add-requires-clause-room
add-requires-clause-room c =
    plant_has_room _ _ _ _ _ _ _ _ _ c.self.invariant (ap (λ (s : PlantState). s.reviving) c.self.view_is ∙ c.requires.first)
    (ap (λ (s : PlantState). is_some s.refusal) c.self.view_is ∙ c.requires.refused)

pub invariant_of-self : goal.invariant_of-self
invariant_of-self c =
    let armed : c.self.inside.armed ≡ true = ap (λ (s : PlantState). s.armed) c.self.view_is ∙ c.requires.armed.armed in
    let first : c.self.inside.reviving ≡ false = ap (λ (s : PlantState). s.reviving) c.self.view_is ∙ c.requires.first in
    let refused : is_some c.self.inside.lent.refusal ≡ true = ap (λ (s : PlantState). is_some s.refusal) c.self.view_is ∙ c.requires.refused in
    rw (c.panic.ensures, c.enter.ensures) (plant_panicked _ _ _ _ _ _ _ _ _ c.self.invariant _ _ _ _ armed first refused c.add.ensures)
