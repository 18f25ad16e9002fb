-- What is known where a store of a trap, or its end, was refused.
use Rattle.std.specs.Prelude.{◌≡◌}
use Rattle.intent_store.specs.Live.{IsStanding, held_of}
use Rattle.ow_plant.specs.State.{PlantState}
use Rattle.record_layouts.specs.declared.traps.Trap.{Trap}
use Rattle.kernel_traps.specs.Traps.{MayBeLeftOfTrap, begun_by}

-- A part of the trap's plan was carried out, or all of it; nothing, where no store was made. Records still stand.
pub record IsRefusedIn (s : PlantState) (t : Trap) (new : PlantState) : Type 0 where
  pub left : MayBeLeftOfTrap s t new
  pub unstored : new.stores ≡ 0 → held_of new ≡ held_of (begun_by s t)
  pub stands : IsStanding new
