-- Which user frames are free, and what leaves the frames of all pages as they are. User frames are counted from the first.
use Rattle.std.specs.Prelude.{◌≡◌, ℕ, zero, suc, ◌+◌, ◌^◌, ◌<◌, Bool, true, false, not, ◌==◌, ◌&&◌, if◌then◌else◌, Option, Some, None, is_some}
use Rattle.record_layouts.specs.declared.proc.ProcRec.{ProcRec}
use Rattle.record_layouts.specs.Unix.Choice.{is_any, least_from}
use Rattle.record_layouts.specs.Held.{Held, Records}
use Rattle.record_layouts.specs.Pages.{claim_of, is_live, page_frame_of, region_of}
use Rattle.record_layouts.specs.Sound.{is_table_place}

abbrev pub is_this : (frame : ℕ) → Option ℕ → Bool
is_this frame (Some other) = other == frame
is_this frame None = false

-- a page of the process in a slot lies in the frame; only a process that goes on has pages
unfoldable pub has_page_in : Records → (slot frame : ℕ) → Bool
has_page_in r slot frame = is_any (λ page. is_this frame (page_frame_of r slot page)) 0 (2 ^ 20)

-- no page of a live process lies in the user frame
unfoldable pub is_free_frame : Records → (number : ℕ) → Bool
is_free_frame r number = not (is_any (λ slot. has_page_in r slot (r.map.pool_base + number)) 0 16)

-- how many of the first user frames, so many, are free
unfoldable pub free_before : Records → (count : ℕ) → ℕ
free_before r zero = 0
free_before r (suc count) = free_before r count + (if is_free_frame r count then 1 else 0)

-- the free user frame before which so many are free
unfoldable pub nth_free : Records → (user_frames i : ℕ) → Option ℕ
nth_free r user_frames i = least_from (λ number. is_free_frame r number && free_before r number == i) 0 user_frames

-- the same as a relation
pub record IsNthFree (r : Records) (user_frames i number : ℕ) : Type 0 where
  pub within : number < user_frames
  pub free : is_free_frame r number ≡ true
  pub before : free_before r number ≡ i

-- a user frame as a frame of memory
abbrev pub in_memory : Records → Option ℕ → Option ℕ
in_memory r (Some number) = Some (r.map.pool_base + number)
in_memory r None = None

-- A page counts where the regions of the process in its slot hold it: the slot's record decodes, and the process goes on.
abbrev pub is_page_of : (page : ℕ) → Option ProcRec → Bool
is_page_of page (Some process) = is_some (region_of process page)
is_page_of page None = false

-- a word of a slot's tables counts where the process goes on, and the word leads to a table or is the entry of a page
abbrev pub is_table_word_of : (table word : ℕ) → Option ProcRec → Bool
is_table_word_of table word (Some process) = is_live process && is_table_place process table word
is_table_word_of table word None = false

-- an owner word that claims no page that counts
abbrev pub ClaimsNone : Records → (claim : ℕ) → Type 0
ClaimsNone r claim = (slot page : ℕ) → slot < 16 → page < 2 ^ 20 → claim ≡ claim_of slot page → is_page_of page (r.procs slot) ≡ false

-- Other records with the same processes, by which each page of each process lies where it lay.
pub record KeepsFrames (r new : Records) : Type 0 where
  pub map : new.map ≡ r.map
  pub procs : (slot : ℕ) → new.procs slot ≡ r.procs slot
  pub frames : (slot page : ℕ) → slot < 16 → page < 2 ^ 20 → page_frame_of new slot page ≡ page_frame_of r slot page

-- What is held has changed, and no page of a live process: each lies where it lay, and its frame has the words it had.
pub record KeepsPages {Rest : Type 0} (h new : Held Rest) : Type 0 where
  pub records : KeepsFrames h.records new.records
  pub contents : (slot page frame word : ℕ) → slot < 16 → page < 2 ^ 20 → page_frame_of h.records slot page ≡ Some frame
      → new.contents frame word ≡ h.contents frame word
