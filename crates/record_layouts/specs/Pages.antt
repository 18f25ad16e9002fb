-- The pages of a process by its records: which there are, and the frame of each by the slot's tables and by the words
-- that name the owners of user frames.
use Rattle.std.specs.Prelude.{ℕ, zero, suc, ◌+◌, ◌-◌, ◌*◌, ◌/◌, ◌%◌, ◌^◌, Bool, true, nat_lt, not, ◌==◌, ◌&&◌, ◌||◌, if◌then◌else◌, Option, Some, None, is_some}
use Rattle.ow_base.specs.Sv32.{WordMap, byte_of, word_or_zero}
use Rattle.ow_base.specs.Entries.{leaf_flags, pointer_word}
use Rattle.ow_base.specs.Pages.{Pages}
use Rattle.ow_base.specs.declared.machine.Rights.{Rights}
use Rattle.ow_base.specs.declared.machine.Rights.TheVariants.{Code, Values}
use Rattle.record_layouts.specs.declared.proc.ProcRec.{ProcRec}
use Rattle.record_layouts.specs.Unix.State.{is_within}
use Rattle.record_layouts.specs.Held.{Records}

-- the states of a process: it is outside a call or in one, and then it goes on, or it has ended
abbrev pub is_outside : ProcRec → Bool
is_outside process = process.state == 1

abbrev pub is_in_call : ProcRec → Bool
is_in_call process = process.state == 2

abbrev pub is_live : ProcRec → Bool
is_live process = is_outside process || is_in_call process

abbrev pub has_ended : ProcRec → Bool
has_ended process = process.state == 3

-- the process of a slot, where it goes on
abbrev pub live_one : Option ProcRec → Option ProcRec
live_one (Some process) = if is_live process then Some process else None
live_one None = None

-- the pages that the heap has
abbrev pub heap_pages : ProcRec → ℕ
heap_pages process = (process.brk + 4095) / 4096

-- code from page 16 on, data and heap behind it, and four pages of stack; a process that does not go on has none
unfoldable pub region_of : ProcRec → (page : ℕ) → Option Rights
region_of process page =
    if not (is_live process) then None else
    if is_within 16 process.code_pages page then Some Code else
    if is_within (16 + process.code_pages) (process.data_pages + heap_pages process) page then Some Values else
    if is_within 0x7fffc 4 page then Some Values else None

-- how many pages these are
unfoldable pub page_total : ProcRec → ℕ
page_total process = if is_live process then process.code_pages + (process.data_pages + heap_pages process) + 4 else 0

-- the frame, counted from the area's first, of a table of a slot: 0 is the root, 1 the low table, 2 the high one
abbrev pub table_frame : (slot table : ℕ) → ℕ
table_frame slot table = 16 + 3 * slot + table

-- the words of the root that name the low table and the high one
abbrev pub low_place : ℕ
low_place = 0

abbrev pub high_place : ℕ
high_place = 511

-- the root has the pointer to one of the two tables at its place
abbrev pub is_linked : Records → (slot table place : ℕ) → Bool
is_linked r slot table place = r.table_words slot 0 place == pointer_word (r.map.area_base + table_frame slot table)

-- the entry of the last level for a page, none where the root does not lead to its table
unfoldable pub entry_for : Records → (slot page : ℕ) → Option ℕ
entry_for r slot page =
    if page / 1024 == low_place && is_linked r slot 1 low_place then Some (r.table_words slot 1 (page % 1024)) else
    if page / 1024 == high_place && is_linked r slot 2 high_place then Some (r.table_words slot 2 (page % 1024)) else None

-- the frame that an entry gives where it is exactly the leaf of these rights
abbrev pub leaf_frame : (entry : ℕ) → Rights → Option ℕ
leaf_frame entry rights = if entry % 1024 == leaf_flags rights then Some (entry / 1024) else None

-- the word that names a slot and a page as the owner of a frame
abbrev pub claim_of : (slot page : ℕ) → ℕ
claim_of slot page = (slot + 1) * 2 ^ 20 + page

-- the frame is a user frame, and its owner is this page of the slot
abbrev pub owned : Records → (slot page : ℕ) → Option ℕ → Option ℕ
owned r slot page (Some frame) =
    if not (nat_lt frame r.map.pool_base) && r.owners (frame - r.map.pool_base) == claim_of slot page then Some frame else None
owned r slot page None = None

abbrev pub frame_by : Records → (slot page : ℕ) → Option ℕ → Option Rights → Option ℕ
frame_by r slot page (Some entry) (Some rights) = owned r slot page (leaf_frame entry rights)
frame_by r slot page (Some entry) None = None
frame_by r slot page None rights = None

-- the frame of a page of this process in a slot: its regions hold the page, the tables lead to the frame with exactly
-- the page's rights, and the frame's owner is this page
unfoldable pub frame_of : Records → (slot : ℕ) → ProcRec → (page : ℕ) → Option ℕ
frame_of r slot process page = frame_by r slot page (entry_for r slot page) (region_of process page)

-- the frame of a page of the process in a slot, none where its record does not decode
abbrev pub frame_if : Records → (slot page : ℕ) → Option ProcRec → Option ℕ
frame_if r slot page (Some process) = frame_of r slot process page
frame_if r slot page None = None

unfoldable pub page_frame_of : Records → (slot page : ℕ) → Option ℕ
page_frame_of r slot page = frame_if r slot page (r.procs slot)

-- each of so many pages from one on has a frame
unfoldable pub have_frames : Records → (slot : ℕ) → ProcRec → (first count : ℕ) → Bool
have_frames r slot process first zero = true
have_frames r slot process first (suc count) = is_some (frame_of r slot process first) && have_frames r slot process (first + 1) count

-- the root leads to both tables, and each page of the process has a frame
unfoldable pub is_mapped : Records → (slot : ℕ) → ProcRec → Bool
is_mapped r slot process =
    is_linked r slot 1 low_place && is_linked r slot 2 high_place
    && have_frames r slot process 16 (process.code_pages + (process.data_pages + heap_pages process)) && have_frames r slot process 0x7fffc 4

-- the byte at an offset of a frame, 0 where there is none
abbrev pub byte_on : WordMap → (offset : ℕ) → Option ℕ → ℕ
byte_on words offset (Some frame) = byte_of (word_or_zero (words frame (offset / 4))) (offset % 4)
byte_on words offset None = 0

-- the pages of a process as bytes
unfoldable pub pages_of : Records → WordMap → (slot : ℕ) → ProcRec → Pages
pages_of r words slot process = record {
  rights = region_of process;
  bytes = λ a. byte_on words (a % 4096) (frame_of r slot process (a / 4096));
}
