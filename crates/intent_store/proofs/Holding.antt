-- What a plant holds after stores.
use Rattle.std.proofs.Common.{◌≡◌, ℕ, ◌+◌, ◌*◌, ◌<◌, ◌≤◌, Bool, true, false, if◌then◌else◌, List, [], ◌∷◌, All, Option, Some, None, IfSome, is_some, refl, sym, ap, subst, ◌∙◌, ◌⊎◌, arith, inl, inr}
use Rattle.std.proofs.lemmas.Bool.Decides.{nat_tests}
use Rattle.ow_base.specs.declared.machine.AreaId.{AreaId}
use Rattle.ow_base.specs.declared.machine.AreaId.TheVariants.{A, B}
use Rattle.ow_plant.specs.declared.refusal.Refusal.{Refusal}
use Rattle.ow_plant.specs.declared.refusal.Refusal.TheVariants as refusal
use Rattle.ow_plant.specs.State.{IsArmed, PlantState, is_refused}
use Rattle.phys_memory.specs.Memory.{words_of}
use Rattle.phys_memory.proofs.Words.{frame_count-sized}
use Rattle.record_layouts.specs.declared.intent.Gate.TheVariants.{Closed}
use Rattle.record_layouts.specs.declared.memory_map.MemoryMap.{MemoryMap}
use Rattle.record_layouts.specs.declared.patch.AnyRec.{AnyRec}
use Rattle.record_layouts.specs.declared.patch.AnyRec.TheVariants as any
use Rattle.record_layouts.specs.declared.patch.PatchItem.{PatchItem}
use Rattle.record_layouts.specs.declared.places.RecordId.{RecordId}
use Rattle.record_layouts.specs.declared.places.RecordId.TheVariants as id
use Rattle.record_layouts.specs.declared.head.HeadRec.{HeadRec}
use Rattle.record_layouts.specs.Held.{Held, Records, SectorsAre, beside, patched, with_items, with_record}
use Rattle.record_layouts.specs.Overlay.{HasArea, area_at}
use Rattle.record_layouts.specs.Reading.{is_readable_gate, records_in, records_of}
use Rattle.intent_store.specs.Blocks.{IsSeenAs, IsSeenSet, seen}
use Rattle.intent_store.specs.Live.{IsBeforeEnd, IsStanding, base_of, gate_held, held_of, map_of, records_held, rest_of}
use Rattle.intent_store.specs.OfMemory.{has_area}
use Rattle.intent_store.proofs.Plants.{armed_by_rest}

pub map_same : (old new : PlantState) → rest_of new ≡ rest_of old → map_of new ≡ map_of old
map_same old new e = ap (λ (s : PlantState). map_of s) e

-- the head is read only where the area is readable
readable_head : (readable : Bool) (head : Option HeadRec) → is_some (if readable then head else None) ≡ true → readable ≡ true
readable_head true head e = refl
readable_head false head e = cc

pub readable_by : (s : PlantState) → is_some (records_held s).head ≡ true → is_readable_gate (gate_held s) ≡ true
unfolding records_of records_in
readable_by s e = readable_head _ _ e

record_head : (r : Records) (id : RecordId) (rec : AnyRec) → is_some r.head ≡ true → is_some (with_record r id rec).head ≡ true
record_head r id.Head (any.Head head) e = refl
record_head r (id.Proc slot) (any.Proc process) e = e
record_head r (id.Sig slot) (any.Sig signals) e = e
record_head r (id.Desc index) (any.Desc description) e = e
record_head r (id.File index) (any.File file) e = e
record_head r (id.Cache index) (any.Cache entry) e = e
record_head r (id.Term tty) (any.Term terminal) e = e
record_head r (id.Row index) (any.Row row) e = e
record_head r (id.Exit pid) (any.Exit exit) e = e
record_head r other rec e = e

items_head : (items : List PatchItem) (r : Records) → is_some r.head ≡ true → is_some (with_items r items).head ≡ true
items_head [] r e = e
items_head (item ∷ items) r e = items_head items (with_record r item.id item.rec) (record_head r item.id item.rec e)

module _ (old new : PlantState) (rest : rest_of new ≡ rest_of old) (same : beside (map_of old).area_base (words_of new.memory) ≡ beside (map_of old).area_base (words_of old.memory)) where
  beside_same : beside (map_of new).area_base (words_of new.memory) ≡ beside (map_of old).area_base (words_of old.memory)
  beside_same = ap (λ (m : MemoryMap). beside m.area_base (words_of new.memory)) (map_same old new rest) ∙ same

  records_seen : records_held new ≡ seen (map_of old) (area_at (words_of new.memory) (map_of old).area_base)
  unfolding records_of
  records_seen = ap (λ (m : MemoryMap). records_of m (words_of new.memory)) (map_same old new rest)

  records_as : IsSeenAs (area_at (words_of old.memory) (map_of old).area_base) (area_at (words_of new.memory) (map_of old).area_base) → records_held new ≡ records_held old
  unfolding records_of
  records_as like = records_seen ∙ like.same (map_of old)

  pub held_as : IsSeenAs (area_at (words_of old.memory) (map_of old).area_base) (area_at (words_of new.memory) (map_of old).area_base) → held_of new ≡ held_of old
  unfolding records_of records_in
  held_as like = λ i. record { records = records_as like i; contents = beside_same i; disk = []; rest = rest i }

  module _ (items : List PatchItem) (few : old.shape.user_frames ≤ 384) (on_disk : All (λ (item : PatchItem). SectorsAre (records_held old).map.sectors item.rec) items) (set : IsSeenSet items (area_at (words_of old.memory) (map_of old).area_base) (area_at (words_of new.memory) (map_of old).area_base)) where
    records_set_by : records_held new ≡ with_items (records_held old) items
    unfolding records_of records_in
    records_set_by = records_seen ∙ set.set (map_of old) few on_disk

    pub held_set : held_of new ≡ patched items (held_of old)
    unfolding records_of records_in
    held_set = λ i. record { records = records_set_by i; contents = beside_same i; disk = []; rest = rest i }

-- the head decodes still
pub standing_as : (old new : PlantState) → IsStanding old → rest_of new ≡ rest_of old → records_held new ≡ records_held old → IsStanding new
standing_as old new stands rest same = record {
  armed = armed_by_rest old new rest stands.armed;
  decodes = ap (λ (r : Records). is_some r.head) same ∙ stands.decodes;
}

pub standing_set : (items : List PatchItem) (old new : PlantState) → IsStanding old → rest_of new ≡ rest_of old → records_held new ≡ with_items (records_held old) items → IsStanding new
standing_set items old new stands rest set = record {
  armed = armed_by_rest old new rest stands.armed;
  decodes = ap (λ (r : Records). is_some r.head) set ∙ items_head items (records_held old) stands.decodes;
}

pub standing_held : (old new : PlantState) → IsStanding old → held_of new ≡ held_of old → IsStanding new
standing_held old new stands e = standing_as old new stands (ap (λ (h : Held PlantState). h.rest) e) (ap (λ (h : Held PlantState). h.records) e)

pub standing_patched : (items : List PatchItem) (old new : PlantState) → IsStanding old → held_of new ≡ patched items (held_of old) → IsStanding new
standing_patched items old new stands e = standing_set items old new stands (ap (λ (h : Held PlantState). h.rest) e) (ap (λ (h : Held PlantState). h.records) e)

-- no end was refused where no refusal stands, or that of a store does
pub able_before_end : (s : PlantState) → IsStanding s → s.refusal ≡ None → IsBeforeEnd s
able_before_end s stands able = record { standing = stands; of_store = subst (λ (o : Option Refusal). IfSome o (λ one. one ≡ refusal.Store)) (sym able) tt }

pub stopped_before_end : (s : PlantState) → IsStanding s → s.refusal ≡ Some refusal.Store → IsBeforeEnd s
stopped_before_end s stands stopped = record { standing = stands; of_store = subst (λ (o : Option Refusal). IfSome o (λ one. one ≡ refusal.Store)) (sym stopped) refl }

of_store_is : (o : Option Refusal) → IfSome o (λ one. one ≡ refusal.Store) → is_some o ≡ true → o ≡ Some refusal.Store
of_store_is (Some one) store some = ap Some store
of_store_is None store some = cc

pub store_stopped : (s : PlantState) → IsBeforeEnd s → is_refused s ≡ true → s.refusal ≡ Some refusal.Store
store_stopped s before refused = of_store_is s.refusal before.of_store refused

pub shut_gate : (s : PlantState) (base : ℕ) → base ≡ (map_of s).area_base → area_at (words_of s.memory) base 16 ≡ 0 → gate_held s ≡ Closed
shut_gate s base e shut = grind (arith, nat_tests, e, shut)

-- the same with the first frame of the area by another name
module _ (old new : PlantState) (base : ℕ) (is : base ≡ (map_of old).area_base) (rest : rest_of new ≡ rest_of old) (same : beside base (words_of new.memory) ≡ beside base (words_of old.memory)) where
  at_base : beside (map_of old).area_base (words_of new.memory) ≡ beside (map_of old).area_base (words_of old.memory)
  at_base = subst (λ b. beside b (words_of new.memory) ≡ beside b (words_of old.memory)) is same

  pub committed_as : IsSeenAs (area_at (words_of old.memory) base) (area_at (words_of new.memory) base) → held_of new ≡ held_of old
  committed_as like = held_as old new rest at_base (subst (λ b. IsSeenAs (area_at (words_of old.memory) b) (area_at (words_of new.memory) b)) is like)

  pub committed_set : (items : List PatchItem) → old.shape.user_frames ≤ 384 → All (λ (item : PatchItem). SectorsAre (records_held old).map.sectors item.rec) items → IsSeenSet items (area_at (words_of old.memory) base) (area_at (words_of new.memory) base) → held_of new ≡ patched items (held_of old)
  committed_set items few on_disk set = held_set old new rest at_base items few on_disk (subst (λ b. IsSeenSet items (area_at (words_of old.memory) b) (area_at (words_of new.memory) b)) is set)

pub held_either : (old new : PlantState) (items : List PatchItem) → IsStanding old → (held_of new ≡ held_of old) ⊎ (held_of new ≡ patched items (held_of old)) → IsStanding new
held_either old new items stands (inl same) = standing_held old new stands same
held_either old new items stands (inr set) = standing_patched items old new stands set
