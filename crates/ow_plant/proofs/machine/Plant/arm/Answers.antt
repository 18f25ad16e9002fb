use Rattle.std.proofs.Common.{◌≡◌, None, ap, arith}
use Rattle.ow_plant.specs.Lent.{LentState}
use Rattle.ow_plant.proofs.Room.{plant_armed}
use Rattle.ow_plant.proofs.machine.Plant.arm.Goals as goal

pub invariant_of-self : goal.invariant_of-self
invariant_of-self c =
    let none : c.in_ok-seen.lent.refusal ≡ None = ap (λ (l : LentState). l.refusal) c.in_ok-seen.ensures.lent in
    let unstored : c.in_ok-seen.lent.stores ≡ 0 = ap (λ (l : LentState). l.stores) c.in_ok-seen.ensures.lent in
    rw (none, unstored, c.in_ok-points.ensures, c.in_ok-past.ensures) (plant_armed _ _ _ _ (omega arith) c.requires.frames)
