-- What the builder sets of an area and of user frames.
use Rattle.std.specs.Prelude.{◌≡◌, ℕ, ◌+◌, ◌-◌, ◌*◌, ◌/◌, ◌%◌, ◌<◌, Bool, true, false, nat_lt, ◌==◌, ◌&&◌, ◌||◌, if◌then◌else◌, List, slice_index, Some, None, is_some}
use Rattle.ow_base.specs.Sv32.{WordMap}
use Rattle.record_layouts.specs.declared.memory_map.MemoryMap.{MemoryMap}
use Rattle.kernel_builder.specs.declared.blueprint.Holder.{Holder}
use Rattle.kernel_builder.specs.Plan.{Plan, entry_word, held_word, owner_word}
use Rattle.record_layouts.specs.declared.places.RecordId.{RecordId}
use Rattle.record_layouts.specs.declared.places.RecordId.TheVariants as id
use Rattle.record_layouts.specs.declared.patch.AnyRec.{AnyRec}
use Rattle.record_layouts.specs.Held.{is_of_area}
use Rattle.record_layouts.specs.Overlay.{Area, area_at, lies_in, may_change}
use Rattle.record_layouts.specs.Places.{IsRecordId, first_word, length_of}
use Rattle.record_layouts.specs.Reading.{words_of}
use Rattle.record_layouts.specs.Seam.{IsSpelled}

-- an area with the first words of a list, so many, in their places from a number on
unfoldable pub with_first_words : Area → (begin count : ℕ) → (words : List ℕ) → Area
with_first_words area begin count words number =
    if lies_in begin (begin + count) number then slice_index words (number - begin) else area number

-- the number of a record among all, which stand in one row, kind after kind
abbrev pub index_of : RecordId → ℕ
index_of id.Head = 0
index_of (id.Proc slot) = 1 + slot
index_of (id.Sig slot) = 17 + slot
index_of (id.Desc index) = 33 + index
index_of (id.File index) = 65 + index
index_of (id.Cache index) = 97 + index
index_of (id.Term tty) = 161 + tty
index_of (id.Row index) = 163 + index
index_of (id.Exit pid) = 210 + pid

-- the records with the numbers below one are spelled in an area
pub record HasRecords (area : Area) (rec_of : RecordId → AnyRec) (count : ℕ) : Type 0 where
  pub each : (one : RecordId) → IsRecordId one → index_of one < count → IsSpelled (rec_of one) (words_of area one)

-- one record is set in an area, and nothing else
pub record IsSet (old new : Area) (one : RecordId) (rec : AnyRec) : Type 0 where
  pub spelled : IsSpelled rec (words_of new one)
  pub others : (number : ℕ) → lies_in (first_word one) (first_word one + length_of one) number ≡ false → new number ≡ old number

-- the words of an area that no record has
unfoldable pub unrecorded : Area → Area
unrecorded area number = if may_change number (number + 1) then 0 else area number

-- so many words of one table of a slot are set
unfoldable pub with_table : MemoryMap → Plan → Area → (slot table count : ℕ) → Area
with_table map plan area slot table count number =
    if lies_in (1024 * (16 + 3 * slot + table)) (1024 * (16 + 3 * slot + table) + count) number
    then entry_word map plan slot table (number - 1024 * (16 + 3 * slot + table)) else area number

-- the three tables of a slot are set
abbrev pub with_slot : MemoryMap → Plan → Area → (slot : ℕ) → Area
with_slot map plan area slot = with_table map plan (with_table map plan (with_table map plan area slot 0 1024) slot 1 1024) slot 2 1024

-- the slot and the table that a word from frame 16 on has
abbrev pub slot_of : (number : ℕ) → ℕ
slot_of number = (number / 1024 - 16) / 3

abbrev pub table_of : (number : ℕ) → ℕ
table_of number = (number / 1024 - 16) % 3

-- the tables of the live slots below one are set
unfoldable pub with_tables : MemoryMap → Plan → Area → (count : ℕ) → Area
with_tables map plan area count number =
    if lies_in 16384 (1024 * (16 + 3 * count)) number && plan.is_live (slot_of number)
    then entry_word map plan (slot_of number) (table_of number) (number % 1024) else area number

-- so many owner words are set
unfoldable pub with_owners : MemoryMap → Plan → Area → (count : ℕ) → Area
with_owners map plan area count number =
    if lies_in 10240 (10240 + count) number then owner_word map plan (number - 10240) else area number

-- the first words of a frame are set
unfoldable pub with_frame : WordMap → (frame : ℕ) → (value : ℕ → ℕ) → (count : ℕ) → WordMap
with_frame words frame value count f w = if f == frame && nat_lt w count then Some (value w) else words f w

-- so many user frames have the words of the pages that they hold
unfoldable pub with_pages : MemoryMap → Plan → WordMap → (count : ℕ) → WordMap
with_pages map plan words count f w =
    if lies_in map.pool_base (map.pool_base + count) f && nat_lt w 1024 && is_some (plan.holder (f - map.pool_base))
    then Some (held_word plan (plan.holder (f - map.pool_base)) w) else words f w

-- the words beside one frame, and beside the user frames
unfoldable pub without : (frame : ℕ) → WordMap → WordMap
without frame words f w = if f == frame then None else words f w

unfoldable pub without_pool : MemoryMap → WordMap → WordMap
without_pool map words f w = if lies_in map.pool_base (map.pool_base + map.user_frames) f then None else words f w

-- the frames that the new kernel has for its own, and the words beside them
abbrev pub is_own : MemoryMap → (frame : ℕ) → Bool
is_own map frame = is_of_area map.area_base frame || lies_in map.pool_base (map.pool_base + map.user_frames) frame

unfoldable pub outside : MemoryMap → WordMap → WordMap
outside map words f w = if is_own map f then None else words f w

-- the user frames are there
pub record HasPool (words : WordMap) (map : MemoryMap) : Type 0 where
  pub there : (frame word : ℕ) → frame < map.user_frames → word < 1024 → is_some (words (map.pool_base + frame) word) ≡ true

-- a frame is there
pub record HasFrame (words : WordMap) (frame : ℕ) : Type 0 where
  pub there : (word : ℕ) → word < 1024 → is_some (words frame word) ≡ true

-- the area is that of a plan; the tables of other slots are as they were
pub record IsFilled (map : MemoryMap) (plan : Plan) (old new : Area) : Type 0 where
  pub shut : new 16 ≡ 0
  pub records : HasRecords new plan.record_of 467
  pub owners : (number : ℕ) → number < 1024 → new (10240 + number) ≡ owner_word map plan number
  pub tables : (slot table word : ℕ) → slot < 16 → table < 3 → word < 1024
      → new (1024 * (16 + 3 * slot + table) + word)
      ≡ (if plan.is_live slot then entry_word map plan slot table word else old (1024 * (16 + 3 * slot + table) + word))

-- and the frames hold the words of their pages
pub record IsBuilt (map : MemoryMap) (plan : Plan) (old new : WordMap) : Type 0 where
  pub area : IsFilled map plan (area_at old map.area_base) (area_at new map.area_base)
  pub pages : (frame word : ℕ) (holder : Holder) → frame < map.user_frames → word < 1024 → plan.holder frame ≡ Some holder
      → new (map.pool_base + frame) word ≡ Some (plan.word_at holder.slot holder.page word)
