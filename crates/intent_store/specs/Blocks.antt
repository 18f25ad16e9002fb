-- What becomes of an area while an intent in its block is opened, carried out and closed.
use Rattle.std.specs.Prelude.{◌≡◌, ℕ, ◌+◌, ◌-◌, ◌≤◌, Bool, false, if◌then◌else◌, List, ◌∷◌, length, slice_index, All}
use Rattle.ow_base.specs.Seals.{seal_from}
use Rattle.ow_base.specs.Words.{updated}
use Rattle.record_layouts.specs.declared.intent.Change.{Change}
use Rattle.record_layouts.specs.declared.memory_map.MemoryMap.{MemoryMap}
use Rattle.record_layouts.specs.declared.patch.PatchItem.{PatchItem}
use Rattle.record_layouts.specs.Held.{Records, SectorsAre, with_items}
use Rattle.record_layouts.specs.Overlay.{Area, gate_of, gate_word, payload_word, seal_word, intent_kind, lies_in, overlay}
use Rattle.record_layouts.specs.Reading.{is_readable_gate, records_in}

-- the words of the intent block
abbrev pub is_of_block : (number : ℕ) → Bool
is_of_block number = lies_in gate_word 1024 number

-- the records that are read of an area, with its intent laid over it
abbrev pub seen : MemoryMap → Area → Records
seen map area = records_in map (is_readable_gate (gate_of area)) (overlay area)

-- the area with words from a number on
unfoldable pub with_words_at : Area → (first : ℕ) → (words : List ℕ) → Area
with_words_at area first words number =
    if lies_in first (first + length words) number then slice_index words (number - first) else area number

-- the seal of a payload, behind the gate that tells its length
abbrev pub seal_of_payload : (payload : List ℕ) → ℕ
seal_of_payload payload = seal_from intent_kind (length payload ∷ payload)

-- the area with an intent of this payload, which is open
abbrev pub opened : Area → (payload : List ℕ) → Area
opened area payload = updated (updated (with_words_at area payload_word payload) seal_word (seal_of_payload payload)) gate_word (length payload)

-- no intent is open, and beside the block the words are those of another area
pub record IsShutLike (old new : Area) : Type 0 where
  pub shut : new gate_word ≡ 0
  pub beside : (number : ℕ) → is_of_block number ≡ false → new number ≡ old number

-- the area with the first words of a change in their places
unfoldable pub partly_changed : Change → (count : ℕ) → Area → Area
partly_changed change count area number =
    if lies_in change.span.begin (change.span.begin + count) number then area (change.values + (number - change.span.begin)) else area number

-- some of the first words of a change are in their places
abbrev pub IsPartlyChanged : Change → (old new : Area) → Type 0
IsPartlyChanged change old new =
    (count : ℕ) × (count ≤ change.span.end - change.span.begin) × (new ≡ partly_changed change count old)

-- the area is read as another
pub record ReadsAs (old new : Area) : Type 0 where
  pub gate : gate_of new ≡ gate_of old
  pub words : overlay new ≡ overlay old

-- the intent is carried out, and it is closed
abbrev pub rolled : Area → Area
rolled area = updated (overlay area) gate_word 0

-- the same records are read of both
pub record IsSeenAs (old new : Area) : Type 0 where
  pub same : (map : MemoryMap) → seen map new ≡ seen map old

-- the records of a patch are set, where the data sectors of its files are on the disk
pub record IsSeenSet (items : List PatchItem) (old new : Area) : Type 0 where
  pub set : (map : MemoryMap) → map.user_frames ≤ 384 → All (λ (item : PatchItem). SectorsAre map.sectors item.rec) items
      → seen map new ≡ with_items (seen map old) items
