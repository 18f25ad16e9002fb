-- A store that is refused while a kernel takes over.
use Rattle.std.proofs.Common.{◌≡◌, true, Result, Ok, Err, OnErr, None, refl, subst}
use Rattle.std.specs.List.{list_any}
use Rattle.intent_store.specs.Live.{is_able}
use Rattle.intent_store.proofs.Plants.{refused_in_trap}
use Rattle.ow_plant.specs.Lent.{lent_of, with_lent}
use Rattle.ow_plant.specs.Points.{is_in}
use Rattle.ow_plant.specs.State.{IsArmed, PlantState, refuses}

pub at_err : {T E : Type 0} (result : Result T E) (P : Type 0) → P → OnErr result P
at_err (Ok x) P holds = tt
at_err (Err e) P holds = holds

-- it is one of the trap that broke
pub refused_later : (old s : PlantState) → s ≡ with_lent old (lent_of s) → IsArmed s → s.refusal ≡ None → refuses s ≡ true
    → list_any (is_in old.traps) old.points ≡ true
refused_later old s rest armed none refused =
    let able : is_able s ≡ true = rw (armed.armed, none) refl in
    subst (λ (t : PlantState). list_any (is_in t.traps) t.points ≡ true) rest (refused_in_trap s able refused)
