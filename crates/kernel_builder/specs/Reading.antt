-- What is read of the frames that a builder has filled.
use Rattle.std.specs.Prelude.{◌≡◌, ℕ, ◌<◌, true, Some}
use Rattle.ow_base.specs.Sv32.{WordMap}
use Rattle.record_layouts.specs.declared.intent.Gate.TheVariants.{Closed}
use Rattle.record_layouts.specs.declared.memory_map.MemoryMap.{MemoryMap}
use Rattle.record_layouts.specs.declared.places.RecordId.{RecordId}
use Rattle.record_layouts.specs.At.{RecOf, as_any, at}
use Rattle.record_layouts.specs.Held.{SectorsAre}
use Rattle.record_layouts.specs.Overlay.{area_at, gate_of}
use Rattle.record_layouts.specs.Places.{IsRecordId}
use Rattle.record_layouts.specs.Reading.{records_of}
use Rattle.kernel_builder.specs.Plan.{Plan, claim_by, entry_word}

-- No intent is open, and the records that are read are those of a plan, a file's where its data sectors are on the disk. Of
-- tables this is said of the slots that have some.
pub record IsReadAs (map : MemoryMap) (plan : Plan) (words : WordMap) : Type 0 where
  pub gate : gate_of (area_at words map.area_base) ≡ Closed
  pub records : (one : RecordId) (value : RecOf one) → IsRecordId one → plan.record_of one ≡ as_any one value
      → SectorsAre map.sectors (as_any one value) → at (records_of map words) one ≡ Some value
  pub owners : (frame : ℕ) → frame < map.user_frames → (records_of map words).owners frame ≡ claim_by (plan.holder frame)
  pub cache_owners : (entry : ℕ) → (records_of map words).cache_owners entry ≡ 0
  pub tables : (slot table word : ℕ) → slot < 16 → table < 3 → word < 1024 → plan.is_live slot ≡ true
      → (records_of map words).table_words slot table word ≡ entry_word map plan slot table word
