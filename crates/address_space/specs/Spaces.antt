-- What becomes of what is held where pages are prepared that do not count yet, and where bytes of a process are stored.
use Rattle.std.specs.Prelude.{◌≡◌, ◌≢◌, ℕ, ◌+◌, ◌-◌, ◌*◌, ◌/◌, ◌^◌, ◌<◌, ◌≤◌, ◌⊎◌, Bool, true, false, nat_lt, not, ◌==◌, ◌&&◌, if◌then◌else◌, List, Some, None}
use Rattle.record_layouts.specs.declared.proc.ProcRec.{ProcRec}
use Rattle.record_layouts.specs.Unix.State.{is_within}
use Rattle.record_layouts.specs.Unix.Spaces.{with_bytes, with_word, with_zero_pages}
use Rattle.record_layouts.specs.Held.{Held, Records}
use Rattle.record_layouts.specs.Pages.{frame_of, heap_pages, is_live, is_mapped, live_one, page_frame_of, page_total, pages_of}
use Rattle.record_layouts.specs.Sound.{is_table_place}
use Rattle.frame_table.specs.Free.{KeepsPages, free_before, is_free_frame, is_page_of, is_table_word_of}
use Rattle.frame_table.specs.Maps.{framed_pages}

-- the page behind the heap
abbrev pub heap_end : ProcRec → ℕ
heap_end process = 16 + process.code_pages + process.data_pages + heap_pages process

-- a live process with the regions of another one, and with so many pages more of heap
pub record HasGrown (process : ProcRec) (count : ℕ) (grown : ProcRec) : Type 0 where
  pub live : is_live grown ≡ true
  pub code : grown.code_pages ≡ process.code_pages
  pub values : grown.data_pages ≡ process.data_pages
  pub heap : heap_pages grown ≡ heap_pages process + count

-- a frame of memory is a user frame that is free
abbrev pub is_spare : Records → (frame : ℕ) → Bool
is_spare r frame = not (nat_lt frame r.map.pool_base) && nat_lt (frame - r.map.pool_base) r.map.user_frames && is_free_frame r (frame - r.map.pool_base)

-- Pages of a slot are prepared, and none counts. Of the records only owner words and words of the slot's tables are
-- others, and of the tables none that counts; beside the area only words of free frames are. Each page of a live process
-- lies where it lay, with the words it had.
pub record OnlyPrepares {Rest : Type 0} (slot : ℕ) (h new : Held Rest) : Type 0 where
  pub records : new.records ≡ record h.records { owners = new.records.owners; table_words = new.records.table_words }
  pub tables : (other table word : ℕ) → other ≢ slot → new.records.table_words other table word ≡ h.records.table_words other table word
  pub counted : (table word : ℕ) → table < 3 → word < 1024 → is_table_word_of table word (h.records.procs slot) ≡ true
      → new.records.table_words slot table word ≡ h.records.table_words slot table word
  pub pages : KeepsPages h new
  pub contents : (frame word : ℕ) → is_spare h.records frame ≡ false → new.contents frame word ≡ h.contents frame word
  pub disk : new.disk ≡ h.disk
  pub rest : new.rest ≡ h.rest

-- so many pages can be prepared behind the heap of the process in a slot: it is live, they end at or below 0x00400000,
-- and so many user frames are free
pub record CanGrow (r : Records) (slot count : ℕ) (process : ProcRec) : Type 0 where
  pub there : r.procs slot ≡ Some process
  pub live : is_live process ≡ true
  pub room : heap_end process + count ≤ 1024
  pub frames : count ≤ free_before r r.map.user_frames

-- So many pages of zeros are prepared behind the heap of the process in a slot: its pages have these behind them once its
-- record counts them. The words of its tables that are not theirs are what they were.
pub record IsGrown {Rest : Type 0} (h new : Held Rest) (slot count : ℕ) (process : ProcRec) : Type 0 where
  pub pages : (grown : ProcRec) → HasGrown process count grown
      → pages_of new.records new.contents slot grown ≡ with_zero_pages (pages_of h.records h.contents slot process) (heap_end process) count
  pub mapped : (grown : ProcRec) → HasGrown process count grown
      → is_mapped h.records slot process ≡ true → is_mapped new.records slot grown ≡ true
  pub tables : (table word : ℕ) → (table == 1 && is_within (heap_end process) count word) ≡ false
      → new.records.table_words slot table word ≡ h.records.table_words slot table word

-- the first pages, fewer than so many, are prepared
abbrev pub IsPartlyGrown : {Rest : Type 0} → (h new : Held Rest) → (slot count : ℕ) → ProcRec → Type 0
IsPartlyGrown h new slot count process = (done : ℕ) × (done < count) × IsGrown h new slot done process

-- the pages of the process in one slot can be copied for another slot, in which no process goes on: so many user frames
-- are free
pub record CanCopy (r : Records) (from to : ℕ) (process : ProcRec) : Type 0 where
  pub there : r.procs from ≡ Some process
  pub live : is_live process ≡ true
  pub unused : live_one (r.procs to) ≡ None
  pub frames : page_total process ≤ free_before r r.map.user_frames

-- The pages of the process in one slot are copied for another slot: a process with the same regions has the same pages
-- there, once a record says so, and all words of its tables that no page uses are 0.
pub record IsCopied {Rest : Type 0} (h new : Held Rest) (from to : ℕ) (process : ProcRec) : Type 0 where
  pub pages : (child : ProcRec) → HasGrown process 0 child
      → pages_of new.records new.contents to child ≡ pages_of h.records h.contents from process
  pub mapped : (child : ProcRec) → HasGrown process 0 child → is_mapped new.records to child ≡ true
  pub clean : (child : ProcRec) → HasGrown process 0 child → (table word : ℕ) → table < 3 → word < 1024
      → is_table_place child table word ≡ false → new.records.table_words to table word ≡ 0

-- the page of which a word of the low table (1) or of the high one (2) is the entry
abbrev pub page_at : (table word : ℕ) → ℕ
page_at table word = if table == 1 then word else 1024 * 511 + word

-- the pages below one are copied so, and no word of the slot's tables leads to another
pub record IsCopiedBelow {Rest : Type 0} (h new : Held Rest) (from to below : ℕ) (process : ProcRec) : Type 0 where
  pub frames : (child : ProcRec) → HasGrown process 0 child → (page : ℕ) → page < below → is_page_of page (Some process) ≡ true
      → (frame : ℕ) × (frame_of new.records to child page ≡ Some frame)
  pub bytes : (child : ProcRec) → HasGrown process 0 child → (a : ℕ) → a / 4096 < below
      → (pages_of new.records new.contents to child).bytes a ≡ (pages_of h.records h.contents from process).bytes a
  pub tables : (table word : ℕ) → 1 ≤ table → table < 3 → word < 1024 → below ≤ page_at table word
      → (new.records.table_words to table word ≡ 0) ⊎ (new.records.table_words to table word ≡ h.records.table_words to table word)

abbrev pub IsPartlyCopied : {Rest : Type 0} → (h new : Held Rest) → (from to : ℕ) → ProcRec → Type 0
IsPartlyCopied h new from to process = (below : ℕ) × IsCopiedBelow h new from to below process

-- bytes of the process in a slot are stored: no word of a frame changes in which none of its pages lies
pub record IsPut {Rest : Type 0} (h new : Held Rest) (slot address : ℕ) (bytes : List ℕ) : Type 0 where
  pub records : new.records ≡ h.records
  pub pages : framed_pages new.records new.contents slot ≡ with_bytes (framed_pages h.records h.contents slot) address bytes
  pub contents : (frame word : ℕ) → ((page : ℕ) → page < 2 ^ 20 → page_frame_of h.records slot page ≢ Some frame)
      → new.contents frame word ≡ h.contents frame word
  pub disk : new.disk ≡ h.disk
  pub rest : new.rest ≡ h.rest

-- a word of the process in a slot is stored: no word of a frame changes in which none of its pages lies
pub record IsWordPut {Rest : Type 0} (h new : Held Rest) (slot address value : ℕ) : Type 0 where
  pub records : new.records ≡ h.records
  pub pages : framed_pages new.records new.contents slot ≡ with_word (framed_pages h.records h.contents slot) address value
  pub contents : (frame word : ℕ) → ((page : ℕ) → page < 2 ^ 20 → page_frame_of h.records slot page ≢ Some frame)
      → new.contents frame word ≡ h.contents frame word
  pub disk : new.disk ≡ h.disk
  pub rest : new.rest ≡ h.rest
