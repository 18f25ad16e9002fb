-- Records that are of the words of a memory.
use Rattle.std.specs.Prelude.{◌≡◌, ℕ, ◌+◌, ◌^◌, ◌<◌, ◌≤◌, true, Some, is_some}
use Rattle.ow_base.specs.Sv32.{WordMap}
use Rattle.record_layouts.specs.Held.{Records}
use Rattle.record_layouts.specs.Overlay.{HasArea}
use Rattle.record_layouts.specs.Pages.{table_frame}

-- The area is there, and the words of its tables are those of the records. Each user frame is whole, the user frames are
-- none of the area's, and what is no user frame has no owner.
pub record AreOfMemory (r : Records) (words : WordMap) : Type 0 where
  pub area : HasArea words r.map.area_base
  pub tables : (slot table word : ℕ) → slot < 16 → table < 3 → word < 1024
      → words (r.map.area_base + table_frame slot table) word ≡ Some (r.table_words slot table word)
  pub few : r.map.user_frames ≤ 384
  pub whole : (i word : ℕ) → i < r.map.user_frames → word < 1024 → is_some (words (r.map.pool_base + i) word) ≡ true
  pub no_owner : (i : ℕ) → r.map.user_frames ≤ i → r.owners i ≡ 0
  pub apart : r.map.area_base + 64 ≤ r.map.pool_base
  pub fits : r.map.pool_base + r.map.user_frames ≤ 2 ^ 22
