use Rattle.std.proofs.Common.{is_some, ap, ◌∙◌}
use Rattle.std.specs.List.{list_any}
use Rattle.ow_plant.specs.Points.{is_behind}
use Rattle.ow_plant.specs.State.{PlantState}
use Rattle.ow_plant.proofs.Exact.{ahead_counted, not_so}
use Rattle.ow_plant.proofs.Room.{plant_live}
use Rattle.ow_plant.proofs.machine.Plant.set_live.Goals as goal

pub invariant_of-self : goal.invariant_of-self
invariant_of-self c =
    let old = c.args.self.now in
    let made = ahead_counted old.points old.reviving old.stores old.refusal old.traps (not_so _ c.in_ok-count_store.ensures.exact.0) in
    let after = c.self.view_is ∙ c.in_ok-count_store.ensures.ok in
    rw c.exchange.ensures.own (plant_live _ _ _ _ _ _ _ _ _ c.self.invariant _
    (ap (λ (s : PlantState). s.armed) after ∙ c.requires.armed)
    (ap (λ (s : PlantState). is_some s.refusal) after ∙ made.0)
    (ap (λ (s : PlantState). list_any (is_behind s.traps s.stores) s.points) after ∙ made.1))
