-- A program whose page tables map each page to a frame of its own, and the pages that it has by them.
use Rattle.std.specs.Prelude.{◌≡◌, ◌≢◌, ℕ, ◌+◌, ◌/◌, ◌%◌, ◌^◌, ◌<◌, ◌≤◌, ◌==◌, if◌then◌else◌, Option, Some, None, Result, Ok, Err}
use Rattle.ow_base.specs.Pages.{Pages}
use Rattle.ow_base.specs.Sv32.{WordMap, byte_of, word_or_zero}
use Rattle.ow_base.specs.declared.machine.Access.{Access}
use Rattle.ow_base.specs.declared.machine.Phys.{Phys}
use Rattle.ow_base.specs.declared.machine.PageCause.{PageCause}
use Rattle.ow_base.specs.declared.machine.PageCause.TheVariants as cause
use Rattle.ow_base.specs.declared.machine.Rights.{Rights}
use Rattle.ow_base.specs.declared.machine.Rights.TheVariants.{Values}
use Rattle.sv32_tables.specs.Entries.{leaf_word, pointer_word, granted}

-- where a page lies and what the program may do with it
pub record Mapping : Type 0 where
  pub frame : ℕ
  pub rights : Rights

-- the entry of the last level for a page
abbrev pub entry_of : Option Mapping → ℕ
entry_of (Some m) = leaf_word m.frame m.rights
entry_of None = 0

-- where an access to an address of a page leads: to its place in the page's frame, where the page's rights give it
abbrev pub mapped : Option Mapping → (address : ℕ) → Access → Result Phys PageCause
mapped (Some m) address access =
    if granted access m.rights then Ok (record { frame = m.frame; offset = address % 4096 }) else Err cause.Page
mapped None address access = Err cause.Page

abbrev pub rights_in : Option Mapping → Option Rights
rights_in (Some m) = Some m.rights
rights_in None = None

-- the byte at an offset of a page, 0 where there is no page
abbrev pub byte_in : WordMap → (offset : ℕ) → Option Mapping → ℕ
byte_in words offset (Some m) = byte_of (word_or_zero (words m.frame (offset / 4))) (offset % 4)
byte_in words offset None = 0

-- the pages that a program has by a map of pages to frames
abbrev pub pages_in : (map : ℕ → Option Mapping) → WordMap → Pages
pages_in map words = record {
  rights = λ page. rights_in (map page);
  bytes = λ a. byte_in words (a % 4096) (map (a / 4096));
}

-- the value of satp with this root, Sv32 being on
abbrev pub satp_of : (root : ℕ) → ℕ
satp_of root = 2 ^ 31 + root

-- The page tables from this root on lead where the map says. The root names two tables: the low one has the first
-- 1,024 pages, and the high one the 1,024 pages below 0x80000000, from page 523,264 on.
pub record IsMapped (words : WordMap) (root : ℕ) (map : ℕ → Option Mapping) : Type 0 where
  pub low : ℕ
  pub high : ℕ
  pub root_words : (i : ℕ) → i < 1024 → words root i ≡ Some (if i == 0 then pointer_word low else if i == 511 then pointer_word high else 0)
  pub low_words : (i : ℕ) → i < 1024 → words low i ≡ Some (entry_of (map i))
  pub high_words : (i : ℕ) → i < 1024 → words high i ≡ Some (entry_of (map (523264 + i)))
  -- there is no page between the two tables' and none behind
  pub between : (page : ℕ) → 1024 ≤ page → page < 523264 → map page ≡ None
  pub behind : (page : ℕ) → 524288 ≤ page → map page ≡ None
  pub root_fits : root < 2 ^ 22
  pub low_fits : low < 2 ^ 22
  pub high_fits : high < 2 ^ 22
  -- the frame of each page is there, is none of the tables', and is no other page's
  pub frame_fits : (page : ℕ) (m : Mapping) → map page ≡ Some m → m.frame < 2 ^ 22
  pub whole : (page : ℕ) (m : Mapping) → map page ≡ Some m → (i : ℕ) → i < 1024 → (word : ℕ) × (words m.frame i ≡ Some word)
  pub no_table : (page : ℕ) (m : Mapping) → map page ≡ Some m → (m.frame ≢ root) × (m.frame ≢ low) × (m.frame ≢ high)
  pub apart : (page other : ℕ) (m n : Mapping) → map page ≡ Some m → map other ≡ Some n → m.frame ≡ n.frame → page ≡ other

-- a place in the frame of a page of values
pub record IsWritable (map : ℕ → Option Mapping) (frame place : ℕ) : Type 0 where
  pub page : ℕ
  pub mapping : Mapping
  pub there : map page ≡ Some mapping
  pub of_values : mapping.rights ≡ Values
  pub at : mapping.frame ≡ frame
  pub within : place < 1024
