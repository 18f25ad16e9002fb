-- What is read where the records of a plan are spelled.
use Rattle.std.proofs.Common.{◌≡◌, ℕ, ◌+◌, ◌*◌, ◌<◌, ◌≤◌, true, false, nat_lt, Some, None, refl, ap, subst, ◌∙◌, inl, inr, arith}
use Rattle.std.proofs.lemmas.Bool.{cases_lt, le-ltb, lt-ltb}
use Rattle.std.proofs.lemmas.Bool.Decides.{nat_tests}
use Rattle.ow_base.specs.Sv32.{WordMap}
use Rattle.record_layouts.specs.declared.memory_map.MemoryMap.{MemoryMap}
use Rattle.record_layouts.specs.declared.patch.AnyRec.{AnyRec}
use Rattle.record_layouts.specs.declared.places.RecordId.{RecordId}
use Rattle.record_layouts.specs.declared.places.RecordId.TheVariants as id
use Rattle.record_layouts.specs.At.{RecOf, as_any, at}
use Rattle.record_layouts.specs.Held.{Records, SectorsAre}
use Rattle.record_layouts.specs.Overlay.{Area, area_at, gate_word, open_ranges}
use Rattle.record_layouts.specs.Places.{IsRecordId}
use Rattle.record_layouts.specs.Reading.{records_in, records_of, words_of}
use Rattle.record_layouts.specs.Seam.{IsSpelled}
use Rattle.record_layouts.specs.Spelling.{lies_between}
use Rattle.record_layouts.proofs.Files.{on_disk}
use Rattle.record_layouts.proofs.Intents.{overlay-shut}
use Rattle.record_layouts.proofs.Reading.{cache_read, desc_read, exit_read, file_read, head_read, proc_read, row_read, sig_read, term_read}
use Rattle.kernel_builder.specs.Plan.{Plan, claim_by, entry_word, owner_word}
use Rattle.kernel_builder.specs.Reading.{IsReadAs}
use Rattle.kernel_builder.specs.Sets.{HasRecords, IsBuilt, IsFilled}
use Rattle.kernel_builder.proofs.Sets.{all_numbered}

-- a record that is spelled at its place is the one that is read there
spelled_read : (map : MemoryMap) (area : Area) (one : RecordId) (value : RecOf one) → IsRecordId one → SectorsAre map.sectors (as_any one value)
    → IsSpelled (as_any one value) (words_of area one) → at (records_in map true area) one ≡ Some value
unfolding records_in
spelled_read map area id.Head value there on is = head_read _ _ is
spelled_read map area (id.Proc i) value there on is = rw (lt-ltb i 16 there) (proc_read _ _ is)
spelled_read map area (id.Sig i) value there on is = rw (lt-ltb i 16 there) (sig_read _ _ is)
spelled_read map area (id.Desc i) value there on is = rw (lt-ltb i 32 there) (desc_read _ _ is)
spelled_read map area (id.File i) value there on is = rw (lt-ltb i 32 there) (on_disk map.sectors _ value (file_read _ _ is) on)
spelled_read map area (id.Cache i) value there on is = rw (lt-ltb i 64 there) (cache_read _ _ is)
spelled_read map area (id.Term i) value there on is = rw (lt-ltb i 2 there) (term_read _ _ is)
spelled_read map area (id.Row i) value there on is = rw (lt-ltb i 48 there) (row_read _ _ is)
spelled_read map area (id.Exit i) value there on is =
    let within : lies_between 1 256 i ≡ true = grind (arith, nat_tests) in rw within (exit_read _ _ is)

pub planned_read : (map : MemoryMap) (area : Area) (record_of : RecordId → AnyRec) → HasRecords area record_of 467
    → (one : RecordId) (value : RecOf one) → IsRecordId one → record_of one ≡ as_any one value → SectorsAre map.sectors (as_any one value)
    → at (records_in map true area) one ≡ Some value
planned_read map area record_of has one value there is on =
    spelled_read map area one value there on
    (subst (λ (rec : AnyRec). IsSpelled rec (words_of area one)) is (has.each one there (all_numbered one there)))

-- where the gate is 0 the area's own words are read
shut-ranges : (area : Area) → area gate_word ≡ 0 → open_ranges area ≡ None
unfolding open_ranges
shut-ranges area shut = grind (arith, nat_tests, shut)

pub shut_read : (map : MemoryMap) (words : WordMap) → area_at words map.area_base 16 ≡ 0
    → records_of map words ≡ records_in map true (area_at words map.area_base)
unfolding records_of
shut_read map words shut = rw (shut, overlay-shut (area_at words map.area_base) (shut-ranges (area_at words map.area_base) shut)) refl

module _ (map : MemoryMap) (plan : Plan) (few : map.user_frames ≤ 384) (old new : Area) (filled : IsFilled map plan old new) where
  owner_read : (frame : ℕ) → frame < map.user_frames → (records_in map true new).owners frame ≡ claim_by (plan.holder frame)
  unfolding records_in owner_word
  owner_read frame less =
      rw (lt-ltb frame map.user_frames less)
      (filled.owners frame (omega (arith, less, few)) ∙ rw (lt-ltb frame map.user_frames less) refl)

  cache_owner_read : (entry : ℕ) → (records_in map true new).cache_owners entry ≡ 0
  unfolding records_in owner_word
  cache_owner_read entry = elim (cases_lt entry 64) [
    | inl less ↦
        let past : nat_lt (960 + entry) map.user_frames ≡ false = grind (arith, nat_tests, few) in
        let place : 10 * 1024 + 960 + entry ≡ 10240 + (960 + entry) = omega arith in
        rw (lt-ltb entry 64 less) (ap (λ (n : ℕ). new n) place ∙ filled.owners (960 + entry) (omega arith) ∙ rw past refl)
    | inr behind ↦ rw (le-ltb entry 64 behind) refl
  ]

  table_read : (slot table word : ℕ) → slot < 16 → table < 3 → word < 1024 → plan.is_live slot ≡ true
      → (records_in map true new).table_words slot table word ≡ entry_word map plan slot table word
  unfolding records_in
  table_read slot table word s kind small live =
      rw (lt-ltb slot 16 s, lt-ltb table 3 kind, lt-ltb word 1024 small) (filled.tables slot table word s kind small ∙ rw live refl)

pub read_as_planned : (map : MemoryMap) (plan : Plan) (old new : WordMap) → map.user_frames ≤ 384 → IsBuilt map plan old new → IsReadAs map plan new
read_as_planned map plan old new few built =
    let filled = built.area in
    let before = area_at old map.area_base in
    let after = area_at new map.area_base in
    let same = shut_read map new filled.shut in
    record {
      gate = rw filled.shut refl;
      records = λ one value there is on. ap (λ (r : Records). at r one) same ∙ planned_read map after plan.record_of filled.records one value there is on;
      owners = λ frame less. ap (λ (r : Records). r.owners frame) same ∙ owner_read map plan few before after filled frame less;
      cache_owners = λ entry. ap (λ (r : Records). r.cache_owners entry) same ∙ cache_owner_read map plan few before after filled entry;
      tables = λ slot table word s kind small live.
          ap (λ (r : Records). r.table_words slot table word) same ∙ table_read map plan few before after filled slot table word s kind small live;
    }
