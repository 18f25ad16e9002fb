-- Pages of zeros that are prepared behind a heap, one after the other.
use Rattle.std.proofs.Common.{◌≡◌, ◌≢◌, ℕ, ◌+◌, ◌/◌, ◌%◌, ◌^◌, ◌<◌, ◌≤◌, true, false, ◌==◌, ◌&&◌, if◌then◌else◌, Option, Some, None, IfSome, IfNone, is_some, refl, sym, ap, ◌∙◌, inl, inr, arith}
use Rattle.std.proofs.Math.Nat.{zero-div}
use Rattle.std.proofs.lemmas.Bool.{cases_Bool, cases_lt}
use Rattle.std.proofs.lemmas.Bool.Decides.{nat_tests}
use Rattle.ow_base.specs.Entries.{leaf_word}
use Rattle.ow_base.specs.Pages.{Pages}
use Rattle.ow_base.specs.Sv32.{byte_of}
use Rattle.ow_base.specs.declared.machine.Rights.TheVariants.{Values}
use Rattle.sv32_tables.proofs.Spaces.{pages_ext}
use Rattle.record_layouts.specs.declared.memory_map.MemoryMap.{MemoryMap}
use Rattle.record_layouts.specs.declared.proc.ProcRec.{ProcRec}
use Rattle.record_layouts.specs.Least.{IsLeast, NonePasses}
use Rattle.record_layouts.specs.Unix.State.{is_within}
use Rattle.record_layouts.specs.Unix.Spaces.{with_zero_pages}
use Rattle.record_layouts.specs.Held.{Held, Records}
use Rattle.record_layouts.specs.Pages.{byte_on, claim_of, entry_for, frame_by, frame_of, high_place, is_linked, is_live, is_mapped, live_one, low_place, pages_of, region_of}
use Rattle.record_layouts.specs.Proc.{FitsProc}
use Rattle.record_layouts.specs.Sound.{IsIn}
use Rattle.frame_table.specs.Free.{KeepsFrames, free_before, is_free_frame, is_page_of}
use Rattle.frame_table.proofs.Counting.{region_none}
use Rattle.frame_table.proofs.Found.{frame_found}
use Rattle.frame_table.proofs.Free.{before_zero, minus}
use Rattle.frame_table.proofs.Keeping.{frame_there}
use Rattle.frame_table.proofs.Kept.{frame_kept, pages_kept}
use Rattle.frame_table.proofs.Tables.{HasFrame, HasFrames, HasNone, low_entry, mapped_frames, mapped_where_held, page_case}
use Rattle.address_space.specs.Preparing.{CanPrepare, IsPageBegun, IsPagePrepared, table_of}
use Rattle.address_space.specs.Spaces.{CanGrow, HasGrown, IsGrown, IsPartlyGrown, OnlyPrepares, heap_end}
use Rattle.address_space.proofs.Living.{live_can}
use Rattle.address_space.proofs.Prepared.{prepares_none, prepares_on}
use Rattle.address_space.proofs.Taking.{begun_entries, can_prepare, one_left, one_taken}

pub can_grow : (r : Records) (slot count : ℕ) (process : ProcRec) → r.procs slot ≡ Some process → is_some (live_one (r.procs slot)) ≡ true
    → IfSome (live_one (r.procs slot)) (CanGrow r slot count) → CanGrow r slot count process
can_grow r slot count process there goes can = live_can (r.procs slot) process (CanGrow r slot count) there goes can

-- a page of zeros is prepared in a user frame below one
pub record IsReady {Rest : Type 0} (now : Held Rest) (slot from page : ℕ) : Type 0 where
  pub number : ℕ
  pub below : number < from
  pub owner : now.records.owners number ≡ claim_of slot page
  pub entry : now.records.table_words slot 1 page ≡ leaf_word (now.records.map.pool_base + number) Values
  pub zeros : (word : ℕ) → word < 1024 → now.contents (now.records.map.pool_base + number) word ≡ Some 0

-- What the walk has come to: the pages from the first one on, so many, are prepared in user frames below one, before
-- which no other was free.
pub record AreReady {Rest : Type 0} (h now : Held Rest) (slot first done from : ℕ) : Type 0 where
  pub prepares : OnlyPrepares slot h now
  pub within : from ≤ h.records.map.user_frames
  pub taken : free_before h.records from ≡ done
  pub each : (page : ℕ) → first ≤ page → page < first + done → IsReady now slot from page
  pub tables : (table word : ℕ) → (table == 1 && is_within first done word) ≡ false → now.records.table_words slot table word ≡ h.records.table_words slot table word

-- a word that is not the entry of a page of the low table
other_word : (slot table word page : ℕ) → page / 1024 ≡ 0 → page % 1024 ≡ page → (table == 1 && word == page) ≡ false
    → (slot == slot && table == table_of page && word == page % 1024) ≡ false
other_word slot table word page low place other =
    let same : (slot == slot) ≡ true = grind (arith, nat_tests) in
    rw (same, low, place) other

module _ {Rest : Type 0} where
  pub first_ready : (h : Held Rest) (slot first : ℕ) → AreReady h h slot first 0 0
  first_ready h slot first = record {
    prepares = prepares_none slot h;
    within = omega arith;
    taken = before_zero h.records;
    each = λ page from to. absurd (omega (arith, from, to));
    tables = λ table word out. refl;
  }

  -- a page stays prepared where its owner word, its entry and its frame do
  ready_kept : (now new : Held Rest) (slot from next number page : ℕ) → from ≤ number → from ≤ next
      → new.records.map ≡ now.records.map
      → ((i : ℕ) → i ≢ number → new.records.owners i ≡ now.records.owners i)
      → ((frame word : ℕ) → frame ≢ now.records.map.pool_base + number → new.contents frame word ≡ now.contents frame word)
      → new.records.table_words slot 1 page ≡ now.records.table_words slot 1 page
      → IsReady now slot from page → IsReady new slot next page
  ready_kept now new slot from next number page behind upto map owners contents word is =
      let below : is.number < from = is.below in
      let base : new.records.map.pool_base ≡ now.records.map.pool_base = ap (λ (m : MemoryMap). m.pool_base) map in
      record {
        number = is.number;
        below = omega arith;
        owner = owners is.number (λ same. absurd (omega (arith, same, below))) ∙ is.owner;
        entry = word ∙ is.entry ∙ ap (λ (pool : ℕ). leaf_word (pool + is.number) Values) (sym base);
        zeros = λ place small.
            ap (λ (pool : ℕ). new.contents (pool + is.number) place) base
            ∙ contents (now.records.map.pool_base + is.number) place (λ same. absurd (omega (arith, same, below)))
            ∙ is.zeros place small;
      }

  -- a page of which only words of the frame and the owner are set changes none that is prepared
  begun_ready : (h now new : Held Rest) (slot first done from number : ℕ) → AreReady h now slot first done from
      → from ≤ number → OnlyPrepares slot now new → IsPageBegun now new number → AreReady h new slot first done from
  begun_ready h now new slot first done from number are behind prepares begun =
      record {
        prepares = prepares_on slot h now new are.prepares prepares;
        within = are.within;
        taken = are.taken;
        each = λ page low high. ready_kept now new slot from from number page behind (omega arith) prepares.pages.records.map
            begun.owners begun.contents (begun_entries now new number slot 1 page begun) (are.each page low high);
        tables = λ table word out. begun_entries now new number slot table word begun ∙ are.tables table word out;
      }

  -- the page that is prepared last
  ready_last : (now new : Held Rest) (slot page number : ℕ) → new.records.map.pool_base ≡ now.records.map.pool_base → page / 1024 ≡ 0 → page % 1024 ≡ page
      → IsPagePrepared now new slot page number Values None → IsReady new slot (number + 1) page
  ready_last now new slot page number base low place is =
      let entry : new.records.table_words slot 1 page ≡ leaf_word (now.records.map.pool_base + number) Values = rw (low, place) at is.entry in
      record {
        number = number;
        below = omega arith;
        owner = is.owner;
        entry = entry ∙ ap (λ (pool : ℕ). leaf_word (pool + number) Values) (sym base);
        zeros = λ word small. ap (λ (pool : ℕ). new.contents (pool + number) word) base ∙ is.frame word small;
      }

  -- one page more is prepared in the next free frame
  page_ready : (h now new : Held Rest) (slot first done from number : ℕ) → AreReady h now slot first done from
      → first + done < 1024 → IsLeast (is_free_frame now.records) from h.records.map.user_frames number
      → OnlyPrepares slot now new → IsPagePrepared now new slot (first + done) number Values None
      → AreReady h new slot first (done + 1) (number + 1)
  page_ready h now new slot first done from number are small least prepares is =
      let low : (first + done) / 1024 ≡ 0 = omega arith in
      let place : (first + done) % 1024 ≡ first + done = omega arith in
      let base : new.records.map.pool_base ≡ now.records.map.pool_base = ap (λ (m : MemoryMap). m.pool_base) prepares.pages.records.map in
      let words : (table word : ℕ) → (table == 1 && word == first + done) ≡ false → new.records.table_words slot table word ≡ now.records.table_words slot table word =
      λ table word other. is.entries slot table word (other_word slot table word (first + done) low place other) in
      record {
        prepares = prepares_on slot h now new are.prepares prepares;
        within = let below = least.to in omega (arith, below);
        taken = one_taken h.records now.records are.prepares.pages.records from h.records.map.user_frames number least
            ∙ ap (λ (n : ℕ). n + 1) are.taken;
        each = λ page from_first to. elim (cases_lt page (first + done)) [
          | inl earlier ↦
              ready_kept now new slot from (number + 1) number page least.from (let behind = least.from in omega arith) prepares.pages.records.map is.owners is.contents
              (words 1 page (grind (arith, nat_tests, earlier))) (are.each page from_first earlier)
          | inr last ↦
              let same : page ≡ first + done = omega (arith, last, to) in
              rw same (ready_last now new slot (first + done) number base low place is)
        ];
        tables = λ table word out.
            words table word (grind (arith, nat_tests, out))
            ∙ are.tables table word (grind (arith, nat_tests, out));
      }

-- the entry of a page of the low table
entry_unlinked : (r : Records) (slot page : ℕ) → page < 1024 → is_linked r slot 1 low_place ≡ false → entry_for r slot page ≡ None
unfolding entry_for
entry_unlinked r slot page low linked =
    let first : page / 1024 ≡ 0 = omega arith in
    rw (first, linked) refl

entry_low : (r : Records) (slot page entry : ℕ) → page < 1024 → entry_for r slot page ≡ Some entry → entry ≡ r.table_words slot 1 page
entry_low r slot page entry low e = elim (cases_Bool (is_linked r slot 1 low_place)) [
  | inl linked ↦ let found = low_entry r slot page linked low in cc (found, e)
  | inr unlinked ↦ let none = entry_unlinked r slot page low unlinked in absurd (cc (none, e))
]

zero_byte : (k : ℕ) → byte_of 0 k ≡ 0
zero_byte k = ap (λ (n : ℕ). n % 256) (zero-div (256 ^ k))

-- the frame of a page goes by its regions alone
frame_regions : (r : Records) (slot : ℕ) (process other : ProcRec) (page : ℕ) → region_of other page ≡ region_of process page
    → frame_of r slot other page ≡ frame_of r slot process page
unfolding frame_of
frame_regions r slot process other page same = ap (frame_by r slot page (entry_for r slot page)) same

pub linked_kept : (r new : Records) (slot table place : ℕ) → new.map ≡ r.map → new.table_words slot 0 place ≡ r.table_words slot 0 place
    → is_linked r slot table place ≡ true → is_linked new slot table place ≡ true
linked_kept r new slot table place map word linked = rw (word, map) linked

-- a page that is prepared, where its process has it
module _ {Rest : Type 0} (now : Held Rest) (slot from page : ℕ) (process : ProcRec) (low : page < 1024) (held : region_of process page ≡ Some Values)
    (is : IsReady now slot from page) where
  frame_ready : is_linked now.records slot 1 low_place ≡ true → frame_of now.records slot process page ≡ Some (now.records.map.pool_base + is.number)
  frame_ready linked =
      frame_there now.records slot process page (now.records.map.pool_base + is.number) (record {
        rights = Values;
        held = held;
        entry = low_entry now.records slot page linked low ∙ ap Some is.entry;
        of_users = omega arith;
        claimed = ap now.records.owners (minus now.records.map.pool_base is.number) ∙ is.owner;
      })

  -- its bytes are 0, also where the tables do not lead to it
  byte_ready : (offset : ℕ) (found : Option ℕ) → offset < 4096 → frame_of now.records slot process page ≡ found → byte_on now.contents offset found ≡ 0
  byte_ready offset None small e = refl
  byte_ready offset (Some frame) small e =
      let f = frame_found now.records slot process page frame e in
      let values : f.rights ≡ Values = cc (f.held, held) in
      let word : leaf_word frame f.rights ≡ leaf_word (now.records.map.pool_base + is.number) Values = entry_low now.records slot page _ low f.entry ∙ is.entry in
      let same : frame ≡ now.records.map.pool_base + is.number = let leaf = rw values at word in omega (arith, leaf) in
      let zero : now.contents frame (offset / 4) ≡ Some 0 = rw same (is.zeros (offset / 4) (omega arith)) in
      rw zero (zero_byte (offset % 4))

module _ (process grown : ProcRec) (count : ℕ) (has : HasGrown process count grown) (live : is_live process ≡ true) where
  -- the pages behind the heap are new, and the others what they were
  region_grown : (page : ℕ) → region_of grown page ≡ (if is_within (heap_end process) count page then Some Values else region_of process page)
  unfolding region_of
  region_grown page = grind (arith, nat_tests, live, has.live, has.code, has.values, has.heap)

  pub region_new : (page : ℕ) → is_within (heap_end process) count page ≡ true → region_of grown page ≡ Some Values
  region_new page within = region_grown page ∙ rw within refl

  pub region_old : (page : ℕ) → is_within (heap_end process) count page ≡ false → region_of grown page ≡ region_of process page
  region_old page out = region_grown page ∙ rw out refl

module _ {Rest : Type 0} (h new : Held Rest) (slot done from : ℕ) (process : ProcRec) (at : IsIn h.records slot process) (fits : FitsProc process)
    (room : heap_end process + done ≤ 1024) (are : AreReady h new slot (heap_end process) done from) (grown : ProcRec) (has : HasGrown process done grown) where
  ready_at : (page : ℕ) → is_within (heap_end process) done page ≡ true → (page < 1024) × IsReady new slot from page
  ready_at page within =
      let low : heap_end process ≤ page = grind (arith, nat_tests, within) in
      let high : page < heap_end process + done = grind (arith, nat_tests, within) in
      (omega (arith, high, room), are.each page low high)

  -- bytes
  old_bytes : (a : ℕ) → byte_on new.contents (a % 4096) (frame_of new.records slot process (a / 4096)) ≡ byte_on h.contents (a % 4096) (frame_of h.records slot process (a / 4096))
  unfolding pages_of
  old_bytes a = ap (λ (pages : Pages). pages.bytes a) (pages_kept h new are.prepares.pages slot process at fits)

  bytes_grown : (a : ℕ) → byte_on new.contents (a % 4096) (frame_of new.records slot grown (a / 4096))
      ≡ (if is_within (heap_end process) done (a / 4096) then 0 else byte_on h.contents (a % 4096) (frame_of h.records slot process (a / 4096)))
  bytes_grown a = elim (cases_Bool (is_within (heap_end process) done (a / 4096))) [
    | inl within ↦
        let ready = ready_at (a / 4096) within in
        byte_ready new slot from (a / 4096) grown ready.0 (region_new process grown done has at.live (a / 4096) within) ready.1 (a % 4096) _ (omega arith) refl
        ∙ rw within refl
    | inr out ↦
        ap (byte_on new.contents (a % 4096)) (frame_regions new.records slot process grown (a / 4096) (region_old process grown done has at.live (a / 4096) out))
        ∙ old_bytes a
        ∙ rw out refl
  ]

  pub pages_grown : pages_of new.records new.contents slot grown ≡ with_zero_pages (pages_of h.records h.contents slot process) (heap_end process) done
  unfolding pages_of with_zero_pages
  pages_grown = pages_ext _ _ (region_grown process grown done has at.live) bytes_grown

  -- frames
  module _ (mapped : is_mapped h.records slot process ≡ true) where
    roots : HasFrames h.records slot process
    roots = mapped_frames h.records slot process mapped

    low_linked : is_linked new.records slot 1 low_place ≡ true
    low_linked = linked_kept h.records new.records slot 1 low_place are.prepares.pages.records.map (are.tables 0 low_place refl) roots.low

    high_linked : is_linked new.records slot 2 high_place ≡ true
    high_linked = linked_kept h.records new.records slot 2 high_place are.prepares.pages.records.map (are.tables 0 high_place refl) roots.high

    -- each page of the process that has grown has a frame
    has_frame : (page : ℕ) → is_some (region_of grown page) ≡ true → is_some (frame_of new.records slot grown page) ≡ true
    has_frame page held = elim (cases_Bool (is_within (heap_end process) done page)) [
      | inl within ↦
          let ready = ready_at page within in
          rw (frame_ready new slot from page grown ready.0 (region_new process grown done has at.live page within) ready.1 low_linked) refl
      | inr out ↦
          let same = region_old process grown done has at.live page out in
          elim (page_case h.records slot process page mapped) [
            | HasFrame frame found ↦ rw (frame_regions new.records slot process grown page same, frame_kept h new are.prepares.pages slot process at fits page, found) refl
            | HasNone none ↦ absurd (cc (rw (same, none) at held))
          ]
    ]

    pub mapped_grown : is_mapped new.records slot grown ≡ true
    mapped_grown = mapped_where_held new.records slot grown has.live low_linked high_linked has_frame

-- so many pages are there once the record counts them
are_grown : {Rest : Type 0} → (h new : Held Rest) (slot done from : ℕ) (process : ProcRec) → IsIn h.records slot process → FitsProc process
    → heap_end process + done ≤ 1024 → AreReady h new slot (heap_end process) done from → IsGrown h new slot done process
are_grown h new slot done from process at fits room are = record {
  pages = λ grown has. pages_grown h new slot done from process at fits room are grown has;
  mapped = λ grown has mapped. mapped_grown h new slot done from process at fits room are grown has mapped;
  tables = are.tables;
}

-- One step of the walk: a frame is left, the next page can be prepared in it, and is, or is begun.
module _ {Rest : Type 0} (h now : Held Rest) (slot count first done from : ℕ) (process : ProcRec) (can : CanGrow h.records slot count process)
    (behind : first ≡ heap_end process) (more : done < count) (are : AreReady h now slot first done from) where
  keeps : KeepsFrames h.records now.records
  keeps = are.prepares.pages.records

  small : first + done < 1024
  small = omega (arith, behind, can.room, more)

  -- a frame is left
  pub some_found : (found : Option ℕ) → IfNone found (NonePasses (is_free_frame now.records) from h.records.map.user_frames) → is_some found ≡ true
  some_found found none =
      one_left h.records now.records keeps from h.records.map.user_frames (omega (arith, are.taken, can.frames, more)) found none

  uncounted : (held : Option ProcRec) → held ≡ Some process → is_page_of (first + done) held ≡ false
  uncounted held there =
      let none = region_none process (first + done) (inr (omega (arith, behind))) (inl (omega (arith, behind, can.room, more))) in
      rw (there, none) refl

  pub can_prepare_next : (number : ℕ) → slot < 16 → IsLeast (is_free_frame now.records) from h.records.map.user_frames number
      → CanPrepare now.records slot (first + done) number
  can_prepare_next number fits least =
      can_prepare h.records now.records keeps from h.records.map.user_frames number least slot (first + done) fits
      (inl (omega (arith, small))) (uncounted (h.records.procs slot) can.there) refl

  module _ (new : Held Rest) (number : ℕ) (least : IsLeast (is_free_frame now.records) from h.records.map.user_frames number)
      (prepares : OnlyPrepares slot now new) where
    pub next_ready : IsPagePrepared now new slot (first + done) number Values None → AreReady h new slot first (done + 1) (number + 1)
    next_ready is = page_ready h now new slot first done from number are small least prepares is

    -- where it is begun and no more, the pages before it are there
    pub partly_grown : slot < 16 → FitsProc process → IsPageBegun now new number → IfSome (h.records.procs slot) (IsPartlyGrown h new slot count)
    partly_grown within fits begun =
        let at : IsIn h.records slot process = record { within = within; there = can.there; live = can.live } in
        let ready = begun_ready h now new slot first done from number are least.from prepares begun in
        rw can.there (done, more, are_grown h new slot done from process at fits (omega (arith, can.room, more)) (rw behind at ready))

-- and all of them at the end
pub all_grown : {Rest : Type 0} → (h new : Held Rest) (slot count first done from : ℕ) (process : ProcRec) → CanGrow h.records slot count process
    → first ≡ heap_end process → done ≡ count → AreReady h new slot first done from → slot < 16 → FitsProc process
    → IfSome (h.records.procs slot) (IsGrown h new slot count)
all_grown h new slot count first done from process can behind whole are within fits =
    let at : IsIn h.records slot process = record { within = within; there = can.there; live = can.live } in
    rw can.there (are_grown h new slot count from process at fits can.room (rw (behind, whole) at are))
