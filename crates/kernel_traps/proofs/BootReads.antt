-- What is read where the records of boot are spelled.
use Rattle.std.proofs.Common.{◌≡◌, ℕ, ◌<◌, Bool, true, false, None, is_some, refl}
use Rattle.std.proofs.lemmas.List.Elements.{All-nil}
use Rattle.ow_base.specs.declared.worlds.Load.{Load}
use Rattle.record_layouts.specs.declared.memory_map.MemoryMap.{MemoryMap}
use Rattle.record_layouts.specs.declared.places.RecordId.{RecordId}
use Rattle.record_layouts.specs.declared.places.RecordId.TheVariants as id
use Rattle.record_layouts.specs.Overlay.{Area}
use Rattle.record_layouts.specs.Places.{IsRecordId, is_id}
use Rattle.record_layouts.specs.At.{at, fitted}
use Rattle.record_layouts.specs.Reading.{records_in}
use Rattle.kernel_traps.specs.BootRecords.{booted_record}
use Rattle.kernel_builder.specs.Sets.{HasRecords}
use Rattle.kernel_builder.proofs.Reading.{planned_read}

pub booted_read : (map : MemoryMap) (area : Area) (load : Load) → HasRecords area (booted_record load) 467
    → (one : RecordId) → IsRecordId one → at (records_in map true area) one ≡ fitted one (booted_record load one)
booted_read map area load has id.Head there = planned_read map area (booted_record load) has id.Head _ there refl tt
booted_read map area load has (id.Proc i) there = planned_read map area (booted_record load) has (id.Proc i) _ there refl tt
booted_read map area load has (id.Sig i) there = planned_read map area (booted_record load) has (id.Sig i) _ there refl tt
booted_read map area load has (id.Desc i) there = planned_read map area (booted_record load) has (id.Desc i) _ there refl tt
booted_read map area load has (id.File i) there = planned_read map area (booted_record load) has (id.File i) _ there refl (All-nil (λ (sector : ℕ). sector < map.sectors))
booted_read map area load has (id.Cache i) there = planned_read map area (booted_record load) has (id.Cache i) _ there refl tt
booted_read map area load has (id.Term i) there = planned_read map area (booted_record load) has (id.Term i) _ there refl tt
booted_read map area load has (id.Row i) there = planned_read map area (booted_record load) has (id.Row i) _ there refl tt
booted_read map area load has (id.Exit i) there = planned_read map area (booted_record load) has (id.Exit i) _ there refl tt

pub booted_decodes : (load : Load) (one : RecordId) → is_some (fitted one (booted_record load one)) ≡ true
booted_decodes load id.Head = refl
booted_decodes load one = refl

-- there is no record behind the last of a kind
pub none_read : (map : MemoryMap) (is_readable : Bool) (area : Area) (one : RecordId) → is_id one ≡ false → at (records_in map is_readable area) one ≡ None
unfolding records_in
none_read map is_readable area id.Head out = absurd (cc out)
none_read map is_readable area (id.Proc i) out = rw out refl
none_read map is_readable area (id.Sig i) out = rw out refl
none_read map is_readable area (id.Desc i) out = rw out refl
none_read map is_readable area (id.File i) out = rw out refl
none_read map is_readable area (id.Cache i) out = rw out refl
none_read map is_readable area (id.Term i) out = rw out refl
none_read map is_readable area (id.Row i) out = rw out refl
none_read map is_readable area (id.Exit i) out = rw out refl
