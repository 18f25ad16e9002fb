-- What is read of frames that were built after the plan of a revival.
use Rattle.std.proofs.Common.{◌≡◌, ℕ, ◌<◌, ◌≤◌, false, List, Option, None, refl, arith}
use Rattle.std.proofs.lemmas.List.Elements.{All-nil}
use Rattle.ow_base.specs.Sv32.{WordMap}
use Rattle.kernel_builder.specs.Blank.{empty_entry, unused_file}
use Rattle.kernel_builder.specs.Reading.{IsReadAs}
use Rattle.kernel_builder.specs.Sets.{IsBuilt}
use Rattle.kernel_builder.proofs.Reading.{read_as_planned}
use Rattle.record_layouts.specs.declared.memory_map.MemoryMap.{MemoryMap}
use Rattle.record_layouts.specs.declared.places.RecordId.{RecordId}
use Rattle.record_layouts.specs.declared.places.RecordId.TheVariants as id
use Rattle.record_layouts.specs.At.{at, fitted}
use Rattle.record_layouts.specs.Held.{Records}
use Rattle.record_layouts.specs.Left.{HandedOver}
use Rattle.record_layouts.specs.Places.{IsRecordId, is_id}
use Rattle.record_layouts.specs.Reading.{records_in, records_of}
use Rattle.resurrector.specs.Rebuilt.{IsRevived}
use Rattle.resurrector.specs.Revived.{revived_description, revived_exit, revived_head, revived_plan, revived_process, revived_record, revived_row, revived_signals, revived_terminal}

-- beyond the records that there are nothing is read
nothing_beyond : (map : MemoryMap) (words : WordMap) (one : RecordId) → is_id one ≡ false → at (records_of map words) one ≡ None
unfolding records_of records_in
nothing_beyond map words id.Head out = absurd (cc out)
nothing_beyond map words (id.Proc slot) out = rw out refl
nothing_beyond map words (id.Sig slot) out = rw out refl
nothing_beyond map words (id.Desc index) out = rw out refl
nothing_beyond map words (id.File index) out = rw out refl
nothing_beyond map words (id.Cache index) out = rw out refl
nothing_beyond map words (id.Term tty) out = rw out refl
nothing_beyond map words (id.Row place) out = rw out refl
nothing_beyond map words (id.Exit pid) out = rw out refl

same_map : (map : MemoryMap) (words : WordMap) → (records_of map words).map ≡ map
unfolding records_of records_in
same_map map words = refl

module _ (r : Records) (handed : Option HandedOver) (counts : List ℕ) (words : WordMap) (map : MemoryMap) (old new : WordMap)
    (few : map.user_frames ≤ 384) (as_many : map.user_frames ≡ r.map.user_frames) (built : IsBuilt map (revived_plan r handed counts words) old new) where
  its : IsReadAs map (revived_plan r handed counts words) new
  its = read_as_planned map (revived_plan r handed counts words) old new few built

  record_read : (one : RecordId) → IsRecordId one → at (records_of map new) one ≡ fitted one (revived_record r handed counts one)
  record_read id.Head there = its.records id.Head (revived_head r handed) there refl tt
  record_read (id.Proc slot) there = its.records (id.Proc slot) (revived_process r handed slot) there refl tt
  record_read (id.Sig slot) there = its.records (id.Sig slot) (revived_signals r handed slot) there refl tt
  record_read (id.Desc index) there = its.records (id.Desc index) (revived_description r handed index) there refl tt
  record_read (id.File index) there = its.records (id.File index) unused_file there refl (All-nil (λ sector. sector < map.sectors))
  record_read (id.Cache index) there = its.records (id.Cache index) empty_entry there refl tt
  record_read (id.Term tty) there = its.records (id.Term tty) (revived_terminal r counts tty) there refl tt
  record_read (id.Row place) there = its.records (id.Row place) (revived_row r place) there refl tt
  record_read (id.Exit pid) there = its.records (id.Exit pid) (revived_exit r handed pid) there refl tt

  pub read_as_revived : IsRevived r handed counts words (records_of map new) new
  unfolding records_of records_in
  read_as_revived = record {
    frames = as_many;
    records = record_read;
    others = nothing_beyond map new;
    owners = λ frame less. its.owners frame (omega (arith, less, as_many));
    tables = λ slot table word low kind small goes. its.tables slot table word low kind small goes;
    contents = λ frame word holder less small held. built.pages frame word holder (omega (arith, less, as_many)) small held;
  }
