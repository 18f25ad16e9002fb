-- The records of a kernel that has booted.
use Rattle.std.specs.Prelude.{◌≡◌, ℕ, ◌+◌, ◌<◌, ◌≤◌, false, length, Some, None}
use Rattle.ow_base.specs.World.{page_count}
use Rattle.ow_base.specs.declared.worlds.Load.{Load}
use Rattle.ow_base.specs.declared.worlds.Program.{Program}
use Rattle.record_layouts.specs.Held.{Records}
use Rattle.record_layouts.specs.At.{at, fitted}
use Rattle.record_layouts.specs.Places.{IsRecordId, is_id}
use Rattle.record_layouts.specs.declared.places.RecordId.{RecordId}
use Rattle.kernel_traps.specs.Boot.{program_in, pages_before}
use Rattle.kernel_traps.specs.BootRecords.{booted_record}
use Rattle.kernel_traps.specs.BootTables.{HasTables}

-- Where the frames of half A are, and each record, which is the one of the load; there are none behind the last of a
-- kind. A process that starts has its tables and the owners of its frames; all other tables are 0, and so are the owners
-- of the frames behind the pages of the last start, and those of the entries of the cache.
pub record IsBooted (r : Records) (load : Load) : Type 0 where
  pub base : r.map.area_base ≡ 1
  pub cache : r.map.cache_base ≡ 65
  pub pool : r.map.pool_base ≡ 129
  pub user_frames : r.map.user_frames ≡ load.shape.user_frames
  pub sectors : r.map.sectors ≡ load.shape.sectors
  pub records : (one : RecordId) → IsRecordId one → at r one ≡ fitted one (booted_record load one)
  pub no_record : (one : RecordId) → is_id one ≡ false → at r one ≡ None
  pub tables : (slot : ℕ) (program : Program) → slot < length load.starts → program_in load slot ≡ Some program
      → HasTables r slot (pages_before load slot) (page_count program.code) (page_count program.code + page_count program.values)
  pub no_table : (slot table word : ℕ) → length load.starts ≤ slot → r.table_words slot table word ≡ 0
  pub no_owner : (frame : ℕ) → pages_before load (length load.starts) ≤ frame → r.owners frame ≡ 0
  pub no_cache_owner : (entry : ℕ) → r.cache_owners entry ≡ 0
