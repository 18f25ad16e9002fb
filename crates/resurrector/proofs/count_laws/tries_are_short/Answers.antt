use Rattle.std.proofs.Common.{◌≡◌, ap, arith}
use Rattle.ow_plant.specs.State.{PlantState}
use Rattle.resurrector.proofs.count_laws.tries_are_short.Goals as goal

pub returns-clause-fresh : goal.returns-clause-fresh
returns-clause-fresh c = λ before entered is. ap (λ (s : PlantState). s.stores) is.after

pub returns-clause-few : goal.returns-clause-few
returns-clause-few c = λ before entered after is frames made.
    let fresh : entered.stores ≡ 0 = ap (λ (s : PlantState). s.stores) is.after in
    omega (arith, fresh, frames, made)
