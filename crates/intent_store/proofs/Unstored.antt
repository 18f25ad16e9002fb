-- Where no store was made all that is held is as it was.
use Rattle.std.proofs.Common.{◌≡◌, ◌∙◌, ◌==◌, ℕ, [], inl, inr, refl, arith}
use Rattle.std.proofs.lemmas.Bool.{cases_Bool}
use Rattle.std.proofs.lemmas.Bool.Decides.{nat_tests}
use Rattle.ow_plant.specs.State.{PlantState, risen, store_refused, with_put}
use Rattle.phys_memory.specs.Memory.{words_of}
use Rattle.record_layouts.specs.Held.{beside}
use Rattle.record_layouts.specs.Reading.{records_in, records_of}
use Rattle.intent_store.specs.Live.{IsUnstored, rest_of}
use Rattle.word_store.specs.Stores.{KeepsUnstored}
use Rattle.intent_store.proofs.Holding.{map_same}

pub unstored_held : (old new : PlantState) → rest_of new ≡ rest_of old → KeepsUnstored old.stores new.stores (words_of old.memory) (words_of new.memory) → IsUnstored old new
unfolding records_of records_in
unstored_held old new rest keeps none =
    let kept = keeps none in (
      kept.0,
      λ i. record {
        records = records_of (map_same old new rest i) (kept.1 i);
        contents = beside (map_same old new rest i).area_base (kept.1 i);
        disk = [];
        rest = rest i;
      },
    )

-- nothing was done, or one thing after the other
pub unstored_same : (s : PlantState) → IsUnstored s s
unstored_same s none = (none, refl)

pub unstored_then : (a b c : PlantState) → IsUnstored a b → IsUnstored b c → IsUnstored a c
unstored_then a b c first then none =
    let later = then none in
    let earlier = first later.0 in
    (earlier.0, later.1 ∙ earlier.1)

-- a byte that is put is a store, and one that is refused changes nothing
one_more : (n : ℕ) → risen n ≡ 0 → ⊥
one_more n none = grind (arith, nat_tests, none)

pub unstored_put : (s : PlantState) (tty byte : ℕ) → IsUnstored s (with_put s tty byte)
unstored_put s tty byte = elim (cases_Bool (tty == 0)) [
  | inl first ↦ rw first (λ none. absurd (one_more s.stores none))
  | inr second ↦ rw second (λ none. absurd (one_more s.stores none))
]

pub unstored_refused : (s : PlantState) → IsUnstored s (store_refused s)
unstored_refused s none = (none, refl)
