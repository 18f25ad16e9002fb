-- Where pages are only prepared, records are as sound as they were but for their tables, and stand for the same state.
use Rattle.std.proofs.Common.{◌≡◌, ◌∙◌, ◌==◌, ◌&&◌, ◌+◌, ◌<◌, ℕ, true, if◌then◌else◌, List, [], ◌∷◌, Option, Some, None, is_some, inl, inr, refl, sym, ap, subst, arith}
use Rattle.std.proofs.lemmas.Bool.{cases_eq}
use Rattle.record_layouts.specs.declared.memory_map.MemoryMap.{MemoryMap}
use Rattle.record_layouts.specs.declared.patch.AnyRec.{AnyRec}
use Rattle.record_layouts.specs.declared.patch.AnyRec.TheVariants as any
use Rattle.record_layouts.specs.declared.patch.PatchItem.{PatchItem}
use Rattle.record_layouts.specs.declared.places.RecordId.{RecordId}
use Rattle.record_layouts.specs.declared.places.RecordId.TheVariants as id
use Rattle.record_layouts.specs.declared.proc.ProcRec.{ProcRec}
use Rattle.record_layouts.specs.Decode.{Context, InKernel, InUser, decodes, ended_of, handlers_of, is_number, is_pending, last_by, pid_in, position_by, process_at, process_by, process_in, process_of, processes_of, slot_by, unix_of, with_bank}
use Rattle.record_layouts.specs.Held.{AreComplete, AreValues, Held, Records, with_items, with_record}
use Rattle.record_layouts.specs.Pages.{is_linked, is_live, is_mapped, low_place, high_place, region_of, frame_of, table_frame}
use Rattle.record_layouts.specs.Sound.{AreInCalls, AreInBuiltCalls, AreNumbered, AreOnTerminals, AreSound, HaveFrames, IsIn, IsInCall, IsTransfer}
use Rattle.record_layouts.specs.Unix.State.{Process}
use Rattle.ow_base.specs.Entries.{pointer_word}
use Rattle.frame_table.proofs.Counting.{fits_there}
use Rattle.frame_table.proofs.Kept.{frame_kept, pages_kept}
use Rattle.frame_table.proofs.Tables.{HasFrame, HasNone, mapped_frames, mapped_where_held, page_case}
use Rattle.frame_table.specs.Free.{is_table_word_of}
use Rattle.address_space.specs.Spaces.{IsCopied, IsGrown, IsWordPut, OnlyPrepares}
use Rattle.frame_table.specs.Maps.{framed_pages}
use Rattle.record_layouts.specs.Unix.Spaces.{with_word}
use Rattle.syscalls.specs.Done.{held_as}
use Rattle.kernel_traps.proofs.UnixBy.{unix_by, unix_is}

-- records with other owner words and other words of tables
abbrev pub prepared_by : Records → (owners : ℕ → ℕ) → (tables : (slot table word : ℕ) → ℕ) → Records
prepared_by r owners tables = record r { owners = owners; table_words = tables }

-- what the records hold at a panic: all that holds between turns, but that tables are clean
pub record AreSoundLeft (r : Records) : Type 0 where
  pub complete : AreComplete r
  pub values : AreValues r
  pub numbered : AreNumbered r
  pub in_calls : AreInCalls r
  pub mapped : HaveFrames r

pub sound_left : (r : Records) → AreSound r → AreSoundLeft r
sound_left r sound = record { complete = sound.complete; values = sound.values; numbered = sound.numbered; in_calls = sound.in_calls; mapped = sound.mapped.mapped }

module _ (r : Records) (owners : ℕ → ℕ) (tables : (slot table word : ℕ) → ℕ) where
  abbrev other : Records
  other = prepared_by r owners tables

  record_prepared : (which : RecordId) (rec : AnyRec) → with_record other which rec ≡ prepared_by (with_record r which rec) owners tables
  record_prepared id.Head (any.Head rec) = refl
  record_prepared (id.Proc place) (any.Proc rec) = refl
  record_prepared (id.Sig place) (any.Sig rec) = refl
  record_prepared (id.Desc place) (any.Desc rec) = refl
  record_prepared (id.File place) (any.File rec) = refl
  record_prepared (id.Cache place) (any.Cache rec) = refl
  record_prepared (id.Term place) (any.Term rec) = refl
  record_prepared (id.Row place) (any.Row rec) = refl
  record_prepared (id.Exit place) (any.Exit rec) = refl
  record_prepared which rec = refl

  was_in : (slot : ℕ) (process : ProcRec) → IsIn other slot process → IsIn r slot process
  was_in slot process is = record { within = is.within; there = is.there; live = is.live }

  in_too : (slot : ℕ) (process : ProcRec) → IsIn r slot process → IsIn other slot process
  in_too slot process is = record { within = is.within; there = is.there; live = is.live }

  complete_too : AreComplete r → AreComplete other
  complete_too complete (id.Proc slot) there = complete (id.Proc slot) there
  complete_too complete one there = complete one there

  values_too : AreValues r → AreValues other
  values_too values (id.Proc slot) = values (id.Proc slot)
  values_too values one = values one

  numbered_too : AreNumbered r → AreNumbered other
  numbered_too sound = record {
    used = sound.used;
    one_slot = sound.one_slot;
    exit = λ slot process is. sound.exit slot process (was_in slot process is);
    process = λ pid slot exit. let found = sound.process pid slot exit in (found.0, in_too slot found.0 found.1, found.2);
    signals = λ slot process is. sound.signals slot process (was_in slot process is);
    ended = sound.ended;
    one_ended = sound.one_ended;
    parents = sound.parents;
  }

  transfer_too : (process : ProcRec) (mode : ℕ) → (description : _) → IsTransfer r process mode description → IsTransfer other process mode description
  transfer_too process mode description it = record {
    descriptor = it.descriptor;
    named = it.named;
    there = it.there;
    allowed = it.allowed;
    count = it.count;
    left = it.left;
  }

  call_too : (process : ProcRec) → IsInCall r process → IsInCall other process
  call_too process it = elim it [
    | inl write ↦ inl (write.0, (write.1.0, transfer_too process 2 write.1.0 write.1.1))
    | inr rest ↦ inr (elim rest [
      | inl read ↦ inl (read.0, read.1, (read.2.0, transfer_too process 1 read.2.0 read.2.1, read.2.2))
      | inr wait ↦ inr wait
    ])
  ]

  calls_too : AreInCalls r → AreInCalls other
  calls_too sound = record {
    calls = λ slot process is state. call_too process (sound.calls slot process (was_in slot process is) state);
    described = λ slot process is fd within named. sound.described slot process (was_in slot process is) fd within named;
  }

  pub prepared_terminals : AreOnTerminals r → AreOnTerminals other
  prepared_terminals on = record { each = λ slot process is fd within named. on.each slot process (was_in slot process is) fd within named }

  pub prepared_built_calls : AreInBuiltCalls r → AreInBuiltCalls other
  prepared_built_calls writes = record { each = λ slot process is state. writes.each slot process (was_in slot process is) state }

  pub prepared_sound : AreSound r → HaveFrames other → AreSoundLeft other
  prepared_sound sound frames = record {
    complete = complete_too sound.complete;
    values = values_too sound.values;
    numbered = numbered_too sound.numbered;
    in_calls = calls_too sound.in_calls;
    mapped = frames;
  }

-- a patch sets neither owner words nor tables
pub items_prepared : (r : Records) (owners : ℕ → ℕ) (tables : (slot table word : ℕ) → ℕ) (items : List PatchItem)
    → with_items (prepared_by r owners tables) items ≡ prepared_by (with_items r items) owners tables
items_prepared r owners tables [] = refl
items_prepared r owners tables (item ∷ items) =
    ap (λ (q : Records). with_items q items) (record_prepared r owners tables item.id item.rec)
    ∙ items_prepared (with_record r item.id item.rec) owners tables items

-- pages that are prepared by what a plant holds are prepared by its records and words
module _ {Rest : Type 0} (slot : ℕ) (h new : Held Rest) where
  pub prepares_as : OnlyPrepares slot h new → OnlyPrepares slot (held_as h.records h.contents) (held_as new.records new.contents)
  prepares_as only = record {
    records = only.records;
    tables = only.tables;
    counted = only.counted;
    pages = record { records = only.pages.records; contents = only.pages.contents };
    contents = only.contents;
    disk = refl;
    rest = refl;
  }

  pub grown_as : (count : ℕ) (process : ProcRec) → IsGrown h new slot count process → IsGrown (held_as h.records h.contents) (held_as new.records new.contents) slot count process
  grown_as count process grown = record { pages = grown.pages; mapped = grown.mapped; tables = grown.tables }

pub copied_as : {Rest : Type 0} (slot child : ℕ) (h new : Held Rest) (process : ProcRec) → IsCopied h new slot child process
    → IsCopied (held_as h.records h.contents) (held_as new.records new.contents) slot child process
copied_as slot child h new process copied = record { pages = copied.pages; mapped = copied.mapped; clean = copied.clean }

pub put_as : {Rest : Type 0} (slot address status : ℕ) (h new : Held Rest) → IsWordPut h new slot address status
    → IsWordPut (held_as h.records h.contents) (held_as h.records new.contents) slot address status
put_as slot address status h new put = record {
  records = refl;
  pages = subst (λ (r : Records). framed_pages r new.contents slot ≡ with_word (framed_pages h.records h.contents slot) address status) put.records put.pages;
  contents = put.contents;
  disk = refl;
  rest = refl;
}

-- the processes of the records are what they were
module _ {Rest : Type 0} (slot : ℕ) (h new : Held Rest) (only : OnlyPrepares slot h new) (sound : AreSound h.records) where
  head_same : new.records.head ≡ h.records.head
  head_same = ap (λ (r : Records). r.head) only.records

  exits_same : (pid : ℕ) → slot_by (new.records.exits pid) ≡ slot_by (h.records.exits pid)
  exits_same pid = ap (λ (r : Records). slot_by (r.exits pid)) only.records

  sigs_same : (place : ℕ) → new.records.sigs place ≡ h.records.sigs place
  sigs_same place = ap (λ (r : Records). r.sigs place) only.records

  pid_same : (place : ℕ) → pid_in new.records place ≡ pid_in h.records place
  unfolding pid_in
  pid_same place = ap (λ (r : Records). pid_in r place) only.records

  base_same : new.records.map.area_base ≡ h.records.map.area_base
  base_same = ap (λ (m : MemoryMap). m.area_base) only.pages.records.map

  module _ (place : ℕ) (process : ProcRec) (is : IsIn h.records place process) where
    frame_same : (page : ℕ) → frame_of new.records place process page ≡ frame_of h.records place process page
    frame_same page = frame_kept h new only.pages place process is (fits_there h.records place process sound.values is.there) page

    -- the words of the root that lead to the tables count
    root_counts : (word : ℕ) → (word == low_place) ≡ true → is_table_word_of 0 word (Some process) ≡ true
    root_counts word low = rw (is.live, low) refl

    root_counts_high : is_table_word_of 0 high_place (Some process) ≡ true
    root_counts_high = rw is.live refl

    root_same : (word : ℕ) → word < 1024 → is_table_word_of 0 word (Some process) ≡ true → new.records.table_words place 0 word ≡ h.records.table_words place 0 word
    root_same word small counts = elim (cases_eq place slot) [
      | inl here ↦
          let its : is_table_word_of 0 word (h.records.procs slot) ≡ true =
          ap (λ (k : ℕ). is_table_word_of 0 word (h.records.procs k)) (sym here) ∙ (ap (is_table_word_of 0 word) is.there ∙ counts) in
          ap (λ (k : ℕ). new.records.table_words k 0 word) here
          ∙ only.counted 0 word (omega arith) small its
          ∙ ap (λ (k : ℕ). h.records.table_words k 0 word) (sym here)
      | inr apart ↦ only.tables place 0 word apart
    ]

    linked_same : (table word : ℕ) → word < 1024 → is_table_word_of 0 word (Some process) ≡ true → is_linked new.records place table word ≡ is_linked h.records place table word
    linked_same table word small counts = λ i. root_same word small counts i == pointer_word (base_same i + table_frame place table)

    has_frame : (page : ℕ) → is_some (region_of process page) ≡ true → is_some (frame_of new.records place process page) ≡ true
    has_frame page held = elim (page_case h.records place process page (sound.mapped.mapped place process is)) [
      | HasFrame frame there ↦ ap (λ (o : Option ℕ). is_some o) (frame_same page ∙ there)
      | HasNone none ↦ absurd (cc (none, held))
    ]

    pub mapped_now : is_mapped new.records place process ≡ true
    mapped_now =
        let was = mapped_frames h.records place process (sound.mapped.mapped place process is) in
        mapped_where_held new.records place process is.live
        (linked_same 1 low_place (omega arith) (root_counts low_place refl) ∙ was.low)
        (linked_same 2 high_place (omega arith) root_counts_high ∙ was.high) has_frame

    decodes_same : (pid : ℕ) → decodes new.records place pid process ≡ decodes h.records place pid process
    decodes_same pid =
        let mapped : is_mapped new.records place process ≡ is_mapped h.records place process = mapped_now ∙ sym (sound.mapped.mapped place process is) in
        λ i. is_some (head_same i) && is_live process && process.pid == pid && mapped i

    process_same : process_of new.records new.contents place process ≡ process_of h.records h.contents place process
    unfolding process_of
    process_same =
        let pages = pages_kept h new only.pages place process is (fits_there h.records place process sound.values is.there) in
        λ i. record (process_of h.records h.contents place process) {
          pages = pages i;
          handlers = handlers_of (sigs_same place i);
          pending = is_pending (sigs_same place i);
        }

    held_same : (pid : ℕ) → process_by new.records new.contents place pid (Some process) ≡ process_by h.records h.contents place pid (Some process)
    held_same pid = λ i. if decodes_same pid i then Some (process_same i) else None

    by_same : (pid : ℕ) → process_by new.records new.contents place pid (new.records.procs place) ≡ process_by h.records h.contents place pid (h.records.procs place)
    by_same pid =
        ap (process_by new.records new.contents place pid) (only.pages.records.procs place ∙ is.there)
        ∙ (held_same pid ∙ sym (ap (process_by h.records h.contents place pid) is.there))

  in_slot_same : (pid : ℕ) (held : Option ℕ) → slot_by (h.records.exits pid) ≡ held → process_in new.records new.contents pid held ≡ process_in h.records h.contents pid held
  in_slot_same pid (Some place) exit =
      let (process, is, own) = sound.numbered.process pid place exit in
      λ i. if is_number (pid_same place i) pid then by_same place process is pid i else None
  in_slot_same pid None exit = refl

  at_same : (pid : ℕ) → process_at new.records new.contents pid ≡ process_at h.records h.contents pid
  unfolding process_at
  at_same pid = ap (process_in new.records new.contents pid) (exits_same pid) ∙ in_slot_same pid (slot_by (h.records.exits pid)) refl

  processes_same : (context : Context) → processes_of new.records new.contents context ≡ processes_of h.records h.contents context
  unfolding processes_of
  processes_same InKernel = λ i pid. at_same pid i
  processes_same (InUser user count bank) = λ i pid. if pid == user then with_bank bank (at_same pid i) else at_same pid i

  others_same : (tapes : ℕ → List ℕ) (ps : ℕ → Option Process) (context : Context) (steps traps : ℕ)
      → unix_by new.records tapes ps (last_by new.records.head context) steps traps (position_by context)
      ≡ unix_by h.records tapes ps (last_by h.records.head context) steps traps (position_by context)
  unfolding ended_of
  others_same tapes ps context steps traps = ap (λ (r : Records). unix_by r tapes ps (last_by r.head context) steps traps (position_by context)) only.records

  pub prepared_unix : (tapes : ℕ → List ℕ) (context : Context) (steps traps : ℕ)
      → unix_of new.records new.contents tapes context steps traps ≡ unix_of h.records h.contents tapes context steps traps
  prepared_unix tapes context steps traps =
      unix_is new.records new.contents tapes context steps traps
      ∙ (others_same tapes (processes_of new.records new.contents context) context steps traps
      ∙ (ap (λ (ps : ℕ → Option Process). unix_by h.records tapes ps (last_by h.records.head context) steps traps (position_by context)) (processes_same context)
      ∙ sym (unix_is h.records h.contents tapes context steps traps)))

  -- and they are sound but for their tables
  pub prepared_left_sound : AreSoundLeft new.records
  prepared_left_sound =
      let owners = new.records.owners in
      let tables = new.records.table_words in
      let frames : HaveFrames (prepared_by h.records owners tables) = λ place process is.
      subst (λ (r : Records). is_mapped r place process ≡ true) only.records (mapped_now place process (was_in h.records owners tables place process is)) in
      subst AreSoundLeft (sym only.records) (prepared_sound h.records owners tables sound frames)
