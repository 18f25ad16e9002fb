-- How far the pages of a process are copied for another slot.
use Rattle.std.specs.Prelude.{◌≡◌, ℕ, ◌+◌, ◌-◌, ◌%◌, ◌<◌, ◌≤◌, ◌⊎◌, Some, None}
use Rattle.ow_base.specs.Entries.{leaf_word}
use Rattle.ow_base.specs.Sv32.{word_or_zero}
use Rattle.ow_base.specs.declared.machine.Rights.{Rights}
use Rattle.record_layouts.specs.declared.proc.ProcRec.{ProcRec}
use Rattle.record_layouts.specs.Held.{Held}
use Rattle.record_layouts.specs.Pages.{claim_of, frame_of, region_of}
use Rattle.frame_table.specs.Free.{free_before}
use Rattle.address_space.specs.Preparing.{bare_word, table_of, word_from}
use Rattle.address_space.specs.Spaces.{OnlyPrepares, page_at}

-- A page is copied into a user frame that comes before the next one to take: the frame's owner is the page in the other
-- slot, the page's entry there is the leaf of its rights, and the words are those of the page, or 0 where it has no frame.
pub record IsPageCopied {Rest : Type 0} (h new : Held Rest) (from to : ℕ) (process : ProcRec) (next page : ℕ) (rights : Rights) : Type 0 where
  pub number : ℕ
  pub taken : number < next
  pub owner : new.records.owners number ≡ claim_of to page
  pub entry : new.records.table_words to (table_of page) (page % 1024) ≡ leaf_word (h.records.map.pool_base + number) rights
  pub words : (word : ℕ) → word < 1024
      → word_or_zero (new.contents (h.records.map.pool_base + number) word) ≡ word_from h.contents (frame_of h.records from process page) word

-- The pages of the process below one are copied, into user frames before the next one to take. All else in the tables of
-- the other slot is what it is where a slot has no page.
pub record ArePagesCopied {Rest : Type 0} (h new : Held Rest) (from to : ℕ) (process : ProcRec) (next below : ℕ) : Type 0 where
  pub prepares : OnlyPrepares to h new
  pub root : (word : ℕ) → word < 1024 → new.records.table_words to 0 word ≡ bare_word h.records.map.area_base to 0 word
  pub pages : (page : ℕ) (rights : Rights) → page < below → region_of process page ≡ Some rights
      → IsPageCopied h new from to process next page rights
  pub empty : (table word : ℕ) → 1 ≤ table → table < 3 → word < 1024
      → (below ≤ page_at table word) ⊎ (region_of process (page_at table word) ≡ None)
      → new.records.table_words to table word ≡ 0

-- whatever pages are copied below the first, those below the end are afterwards
abbrev pub AreCopiedOn : {Rest : Type 0} → (old new : Held Rest) → (from to : ℕ) → ProcRec → (taken first next end : ℕ) → Type 0
AreCopiedOn old new from to process taken first next end = (h : Held _) → ArePagesCopied h old from to process taken first
    → ArePagesCopied h new from to process next end

-- the pages from the first up to the end are copied into as many free user frames, and then comes the next frame
pub record IsRangeCopied {Rest : Type 0} (old new : Held Rest) (from to : ℕ) (process : ProcRec) (taken first end next : ℕ) : Type 0 where
  pub on : AreCopiedOn old new from to process taken first next end
  pub counted : free_before old.records next ≡ free_before old.records taken + (end - first)

-- they are copied up to some page
abbrev pub IsRangePartlyCopied : {Rest : Type 0} → (old new : Held Rest) → (from to : ℕ) → ProcRec → (taken first : ℕ) → Type 0
IsRangePartlyCopied old new from to process taken first = (next : ℕ) × (end : ℕ) × AreCopiedOn old new from to process taken first next end
