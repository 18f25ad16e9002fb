-- What holds after a store that may be refused.
use Rattle.std.proofs.Common.{◌≡◌, ℕ, List, length, Result, Ok, Err, OnOk, OnErr, sym, subst, ap, ◌∙◌}
use Rattle.ow_base.specs.declared.machine.AreaId.{AreaId}
use Rattle.ow_base.specs.declared.machine.AreaId.TheVariants.{A}
use Rattle.ow_base.specs.declared.machine.Panicked.{Panicked}
use Rattle.phys_memory.specs.Halves.{own_half, with_own, words_beside}
use Rattle.ow_plant.specs.Lent.{LentState, lent_of}
use Rattle.ow_plant.specs.State.{IsArmed, PlantState, leave_refused, left_trap, store_refused}
use Rattle.ow_plant.proofs.Armed.{IsArmed-leave_refused, IsArmed-left_trap, IsArmed-store_refused}
use Rattle.ow_plant.proofs.Loans.{beside_stays}

-- a plant is armed after a store that leaves it armed, also where the store is refused
pub armed_after : {A : Type 0} (result : Result A Panicked) (old new stored : PlantState) → IsArmed old → IsArmed stored
    → OnOk result (new ≡ stored) → OnErr result (new ≡ store_refused old) → IsArmed new
armed_after (Ok made) old new stored is kept ok err = subst IsArmed (sym ok) kept
armed_after (Err panicked) old new stored is kept ok err = subst IsArmed (sym err) (IsArmed-store_refused old is)

-- and after the end of a trap
pub armed_after_leave : {A : Type 0} (result : Result A Panicked) (old new : PlantState) → IsArmed old
    → OnOk result (new ≡ left_trap old) → OnErr result (new ≡ leave_refused old) → IsArmed new
armed_after_leave (Ok made) old new is ok err = subst IsArmed (sym ok) (IsArmed-left_trap old is)
armed_after_leave (Err panicked) old new is ok err = subst IsArmed (sym err) (IsArmed-leave_refused old is)

-- what is lent and left with its length leaves the words beside it as they were
pub beside_left : (s : PlantState) (lent after : LentState) (words : List ℕ) → IsArmed s → s.live ≡ A → lent ≡ lent_of s → length after.own ≡ length lent.own → words ≡ after.own
    → words_beside (with_own s.memory s.live words) A ≡ words_beside s.memory A
beside_left s lent after words is live at_first kept left =
    let same : length words ≡ length (own_half s.memory s.live) = ap (λ (ws : List ℕ). length ws) left ∙ kept ∙ ap (λ (l : LentState). length l.own) at_first in
    subst (λ (area : AreaId). words_beside (with_own s.memory s.live words) area ≡ words_beside s.memory area) live
    (beside_stays s (record (lent_of s) { own = words }) is same)
