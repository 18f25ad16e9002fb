-- What is laid over an area sets exactly the records that it spells.
use Rattle.std.proofs.Common.{◌≡◌, ◌≢◌, ℕ, ◌+◌, ◌-◌, ◌*◌, ◌<◌, ◌≤◌, ◌⊎◌, true, false, if◌then◌else◌, nat_lt, ◌&&◌, List, [], ◌∷◌, All, length, slice_index, Option, None, refl, sym, ◌∙◌, ap, subst, arith, inl, inr}
use Rattle.std.proofs.lemmas.Grind.{common_steps}
use Rattle.std.proofs.lemmas.Bool.Decides.{nat_tests}
use Rattle.std.proofs.lemmas.List.Elements.{All-cons, All-head, All-nil, All-tail}
use Rattle.std.proofs.lemmas.Bool.{cases_Bool, ltb-true}
use Rattle.record_layouts.specs.declared.memory_map.MemoryMap.{MemoryMap}
use Rattle.record_layouts.specs.Held.{SectorsAre, with_items, with_record}
use Rattle.record_layouts.specs.declared.patch.AnyRec.{AnyRec}
use Rattle.record_layouts.specs.declared.patch.PatchItem.{PatchItem}
use Rattle.record_layouts.specs.Patch.{IsOfKind, IsPatch, IsPatchItem}
use Rattle.record_layouts.specs.Seam.{AreSpelled, IsSpelled}
use Rattle.record_layouts.specs.declared.patch.AnyRec.TheVariants as any
use Rattle.record_layouts.specs.declared.places.RecordId.{RecordId}
use Rattle.record_layouts.specs.declared.places.RecordId.TheVariants as id
use Rattle.record_layouts.specs.Places.{AreApart, IsRecordId, first_word, is_id, length_of}
use Rattle.record_layouts.specs.Overlay.{Area, WordRange, begin_of, end_of, IsAllowed, laid, lies_in, may_change, words_from}
use Rattle.record_layouts.specs.Reading.{is_read, record_in, records_in, words_of}
use Rattle.record_layouts.specs.Values.{at_read}
use Rattle.record_layouts.specs.At.{RecOf, at, fitted, is_same, read_as}
use Rattle.record_layouts.proofs.At.{at_with, cache_owners_with, is_id-decides, is_same-decides, map_with, owners_with, same_records, same_where, table_words_with}
use Rattle.record_layouts.proofs.Files.{on_disk}
use Rattle.record_layouts.proofs.Intents.{lies_beside, words_from-same}
use Rattle.record_layouts.proofs.Ranges.{words_from-each}
use Rattle.record_layouts.proofs.Reading.{head_read, proc_read, sig_read, desc_read, file_read, cache_read, term_read, row_read, exit_read}

are_apart : (one other : RecordId) → IsRecordId one → IsRecordId other → one ≢ other → AreApart one other
are_apart one other there there_too differ = grind (arith, common_steps)

-- an area with the words of a range put in
abbrev pub with_range : Area → WordRange → Area
with_range area range number =
    if lies_in (begin_of range) (end_of range) number then slice_index range.words (number - begin_of range)
    else area number

module _ (area : Area) (range : WordRange) where
  within_range : (j : ℕ) → j < length range.words → with_range area range (begin_of range + j) ≡ slice_index range.words j
  within_range j less =
      let place : begin_of range + j - begin_of range ≡ j = omega arith in
      rw place (grind (arith, nat_tests))

  beside_range : (number : ℕ) → (number < begin_of range) ⊎ (end_of range ≤ number) → with_range area range number
      ≡ area number
  beside_range number (inl less) = grind (arith, nat_tests)
  beside_range number (inr more) = grind (arith, nat_tests)

  words_apart : (first count : ℕ) → (end_of range ≤ first) ⊎ (first + count ≤ begin_of range) → words_from
      (with_range area range) first count ≡ words_from area first count
  words_apart first count (inl before) = words_from-same _ _ first count
      (λ number low high. beside_range number (inr (omega arith)))
  words_apart first count (inr behind) = words_from-same _ _ first count
      (λ number low high. beside_range number (inl (omega arith)))

module _ (area : Area) (range : WordRange) (one : RecordId) (there : IsRecordId one)
    (begin : begin_of range ≡ first_word one) (long : length range.words ≡ length_of one) where
  own_words : words_of (with_range area range) one ≡ range.words
  own_words = sym (words_from-each (with_range area range) (first_word one) range.words (length_of one) long
      (λ j less. rw (← begin) (sym (within_range area range j (omega arith)))))

  other_words : (other : RecordId) → IsRecordId other → one ≢ other → words_of (with_range area range) other
      ≡ words_of area other
  other_words other there_too differ =
      elim (are_apart one other there there_too differ) [
        | inl before ↦ words_apart area range (first_word other) (length_of other) (inl (omega arith))
        | inr behind ↦ words_apart area range (first_word other) (length_of other) (inr (omega arith))
      ]

  -- words that no intent changes
  beside_records : (number : ℕ) → IsAllowed range → may_change number (number + 1) ≡ false
      → with_range area range number ≡ area number
  beside_records number allowed stays = rw (lies_beside (begin_of range) (end_of range) number allowed.changes stays) refl

-- the words of frame 10, and of those from 12 on, stay
pub stays : (number : ℕ) → ((10240 ≤ number) × (number < 11264)) ⊎ (12288 ≤ number) → may_change number (number + 1)
    ≡ false
stays number (inl owner) = grind (arith, nat_tests)
stays number (inr table) = grind (arith, nat_tests)

module _ (map : MemoryMap) (room : map.user_frames ≤ 384) (area : Area) (range : WordRange) (one : RecordId)
    (there : IsRecordId one)
    (begin : begin_of range ≡ first_word one) (long : length range.words ≡ length_of one)
    (allowed : IsAllowed range) where
  same_owners : (i : ℕ) → (records_in map true (with_range area range)).owners i ≡ (records_in map true area).owners i
  unfolding records_in
  same_owners i =
      same_where 0 (nat_lt i map.user_frames) _ _
      (λ holds. let less = ltb-true i map.user_frames holds in
      beside_records area range one there begin long (10240 + i) allowed
      (stays (10240 + i) (inl (omega arith, omega arith))))

  same_cache_owners : (i : ℕ) → (records_in map true (with_range area range)).cache_owners i
      ≡ (records_in map true area).cache_owners i
  unfolding records_in
  same_cache_owners i =
      same_where 0 (nat_lt i 64) _ _
      (λ holds. let less = ltb-true i 64 holds in
      beside_records area range one there begin long (11200 + i) allowed
      (stays (11200 + i) (inl (omega arith, omega arith))))

  same_table_words : (slot table word : ℕ) → (records_in map true (with_range area range)).table_words slot table word
      ≡ (records_in map true area).table_words slot table word
  unfolding records_in
  same_table_words slot table word =
      same_where 0 (nat_lt slot 16 && nat_lt table 3 && nat_lt word 1024) _ _
      (λ holds. beside_records area range one there begin long (1024 * (16 + 3 * slot + table) + word) allowed
      (stays (1024 * (16 + 3 * slot + table) + word) (inr (omega arith))))

-- what words that spell a record are read as
spelled_read : (sectors : ℕ) (one : RecordId) (rec : AnyRec) (words : List ℕ) → IsOfKind one rec → IsSpelled rec words
    → SectorsAre sectors rec → read_as sectors one words ≡ fitted one rec
spelled_read sectors id.Head (any.Head head) words kind is on_disk = head_read words head is
spelled_read sectors (id.Proc slot) (any.Proc process) words kind is on_disk = proc_read words process is
spelled_read sectors (id.Sig slot) (any.Sig signals) words kind is on_disk = sig_read words signals is
spelled_read sectors (id.Desc index) (any.Desc description) words kind is on_disk = desc_read words description is
spelled_read sectors (id.File index) (any.File file) words kind is sectors_are = on_disk sectors words file (file_read words file is) sectors_are
spelled_read sectors (id.Cache index) (any.Cache entry) words kind is on_disk = cache_read words entry is
spelled_read sectors (id.Term tty) (any.Term terminal) words kind is on_disk = term_read words terminal is
spelled_read sectors (id.Row index) (any.Row row) words kind is on_disk = row_read words row is
spelled_read sectors (id.Exit pid) (any.Exit exit) words kind is on_disk = exit_read words exit is
spelled_read sectors one rec words kind is on_disk = absurd kind

-- in an area that is readable, each record of the layout is looked for
looked_for : (one : RecordId) → is_read true one ≡ is_id one
looked_for one = grind (arith, common_steps)

-- so a range that spells a record sets this record, and no other
module _ (map : MemoryMap) (room : map.user_frames ≤ 384) (area : Area) (range : WordRange) (one : RecordId) (rec : AnyRec)
    (there : IsRecordId one) (kind : IsOfKind one rec)
    (begin : begin_of range ≡ first_word one) (long : length range.words ≡ length_of one) (allowed : IsAllowed range)
    (spelled : IsSpelled rec range.words) (sectors : SectorsAre map.sectors rec) where
  own_read : record_in map true (with_range area range) one ≡ fitted one rec
  own_read =
      rw (looked_for one, (is_id-decides one).1 there, own_words area range one there begin long)
      (spelled_read map.sectors one rec range.words kind spelled sectors)

  other_read : (other : RecordId) → one ≢ other → record_in map true (with_range area range) other ≡ record_in map true area other
  other_read other differ = rw (looked_for other) (same_where None (is_id other) _ _
      (λ holds. ap (read_as map.sectors other)
      (other_words area range one there begin long other ((is_id-decides other).0 holds) differ)))

  each_read : (other : RecordId) → record_in map true (with_range area range) other
      ≡ (if is_same other one then fitted other rec else record_in map true area other)
  each_read other = elim (cases_Bool (is_same other one)) [
    | inl same ↦ rw same (subst (λ (q : RecordId). record_in map true (with_range area range) q ≡ fitted q rec)
        (sym ((is_same-decides other one).0 same)) own_read)
    | inr fails ↦ rw fails (other_read other (λ same. let yes = (is_same-decides other one).1 (sym same) in cc))
  ]

  each_set : (other : RecordId) → at (records_in map true (with_range area range)) other
      ≡ at (with_record (records_in map true area) one rec) other
  each_set other =
      at_read map true (with_range area range) other ∙ each_read other
      ∙ ap (λ (held : Option (RecOf other)). if is_same other one then fitted other rec else held) (sym (at_read map true area other))
      ∙ sym (at_with (records_in map true area) one rec other kind)

  set_one : records_in map true (with_range area range) ≡ with_record (records_in map true area) one rec
  unfolding records_in
  set_one = same_records (records_in map true (with_range area range)) (with_record (records_in map true area) one rec)
      (sym (map_with (records_in map true area) one rec)) each_set
      (λ i. same_owners map room area range one there begin long allowed i ∙ sym (owners_with (records_in map true area) one rec i))
      (λ i. same_cache_owners map room area range one there begin long allowed i
      ∙ sym (cache_owners_with (records_in map true area) one rec i))
      (λ slot table word. same_table_words map room area range one there begin long allowed slot table word
      ∙ sym (table_words_with (records_in map true area) one rec slot table word))

set_items : (map : MemoryMap) → map.user_frames ≤ 384 → (area : Area) (ranges : List WordRange)
    (items : List PatchItem) → All IsPatchItem items → All (λ (item : PatchItem). SectorsAre map.sectors item.rec) items
    → AreSpelled ranges items → records_in map true (λ number. laid ranges number (area number)) ≡ with_items
    (records_in map true area) items
unfolding laid
set_items map room area [] [] each sectors spelled = refl
set_items map room area [] (item ∷ items) each sectors spelled = absurd spelled
set_items map room area (range ∷ ranges) [] each sectors spelled = absurd spelled
set_items map room area (range ∷ ranges) (item ∷ items) each sectors spelled =
    let is = All-head IsPatchItem item items each in
    let s = spelled.0 in
    set_items map room (with_range area range) ranges items (All-tail IsPatchItem item items each)
    (All-tail (λ (item : PatchItem). SectorsAre map.sectors item.rec) item items sectors) spelled.1
    ∙ ap (λ r. with_items r items)
    (set_one map room area range item.id item.rec is.there is.kind s.begin s.long s.allowed s.spelled
    (All-head (λ (item : PatchItem). SectorsAre map.sectors item.rec) item items sectors))

-- an intent may have them all
pub allowed_ranges : (ranges : List WordRange) (items : List PatchItem) → AreSpelled ranges items → All IsAllowed ranges
allowed_ranges [] [] spelled = All-nil IsAllowed
allowed_ranges [] (item ∷ items) spelled = absurd spelled
allowed_ranges (range ∷ ranges) [] spelled = absurd spelled
allowed_ranges (range ∷ ranges) (item ∷ items) spelled = All-cons IsAllowed range ranges spelled.0.allowed
    (allowed_ranges ranges items spelled.1)

-- the ranges of a patch, laid over an area, set its records and nothing else; the data sectors of its files are there
pub patch_sets : (map : MemoryMap) → map.user_frames ≤ 384 → (area : Area) (ranges : List WordRange)
    (items : List PatchItem) → IsPatch items → All (λ (item : PatchItem). SectorsAre map.sectors item.rec) items
    → AreSpelled ranges items → records_in map true (λ number. laid ranges number (area number)) ≡ with_items
    (records_in map true area) items
patch_sets map room area ranges items patch sectors spelled = set_items map room area ranges items patch.each sectors
    spelled
