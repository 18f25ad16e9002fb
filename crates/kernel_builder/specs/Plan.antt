-- What a new kernel begins with, and the words that say so.
use Rattle.std.specs.Prelude.{◌≡◌, ℕ, ◌+◌, ◌*◌, ◌^◌, ◌<◌, ◌≤◌, Bool, true, nat_lt, ◌==◌, if◌then◌else◌, Option, Some, None, is_some}
use Rattle.ow_base.specs.Entries.{leaf_word, pointer_word}
use Rattle.ow_base.specs.Sv32.{WordMap}
use Rattle.record_layouts.specs.declared.memory_map.MemoryMap.{MemoryMap}
use Rattle.record_layouts.specs.declared.places.RecordId.{RecordId}
use Rattle.record_layouts.specs.declared.patch.AnyRec.{AnyRec}
use Rattle.record_layouts.specs.Overlay.{HasArea}
use Rattle.record_layouts.specs.Pages.{claim_of}
use Rattle.kernel_builder.specs.declared.blueprint.Placed.{Placed}
use Rattle.kernel_builder.specs.declared.blueprint.Holder.{Holder}

pub record Plan : Type 0 where
  -- each record
  pub record_of : RecordId → AnyRec
  -- the slots that have tables
  pub is_live : (slot : ℕ) → Bool
  -- where the pages of a slot are
  pub page_at : (slot page : ℕ) → Option Placed
  -- what each user frame holds
  pub holder : (frame : ℕ) → Option Holder
  -- the words of a page
  pub word_at : (slot page word : ℕ) → ℕ

-- the area and the user frames are there, and lie apart
pub record HasFrames (words : WordMap) (map : MemoryMap) : Type 0 where
  pub area : HasArea words map.area_base
  pub low : map.area_base + 64 ≤ 2 ^ 22
  pub numbered : map.pool_base + map.user_frames ≤ 2 ^ 22
  pub few : map.user_frames ≤ 384
  pub apart : map.area_base + 64 ≤ map.pool_base
  pub there : (frame word : ℕ) → frame < map.user_frames → word < 1024 → is_some (words (map.pool_base + frame) word) ≡ true

-- the entry that leads to a page
abbrev pub page_entry : (pool_base : ℕ) → Option Placed → ℕ
page_entry pool_base (Some placed) = leaf_word (pool_base + placed.frame) placed.rights
page_entry pool_base None = 0

-- a word of the root of a slot, whose tables begin at this frame
abbrev pub root_entry : (frame word : ℕ) → ℕ
root_entry frame word =
    if word == 0 then pointer_word (frame + 1) else if word == 511 then pointer_word (frame + 2) else 0

-- a word of a table of a slot
unfoldable pub entry_word : MemoryMap → Plan → (slot table word : ℕ) → ℕ
entry_word map plan slot table word =
    if table == 0 then root_entry (map.area_base + (16 + 3 * slot)) word
    else if table == 1 then page_entry map.pool_base (plan.page_at slot word)
    else page_entry map.pool_base (plan.page_at slot (0x7fc00 + word))

-- the word that names what a frame holds
abbrev pub claim_by : Option Holder → ℕ
claim_by (Some holder) = claim_of holder.slot holder.page
claim_by None = 0

unfoldable pub owner_word : MemoryMap → Plan → (number : ℕ) → ℕ
owner_word map plan number = if nat_lt number map.user_frames then claim_by (plan.holder number) else 0

abbrev pub held_word : Plan → Option Holder → (word : ℕ) → ℕ
held_word plan (Some holder) word = plan.word_at holder.slot holder.page word
held_word plan None word = 0
