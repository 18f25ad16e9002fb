-- Sv32: how page tables lead from an address of a program to a place in memory (The RISC-V Instruction Set
-- Manual, Volume II, "Sv32: Page-Based 32-bit Virtual-Memory Systems"), in user mode.
use Rattle.std.specs.Prelude.{ℕ, ◌+◌, ◌*◌, ◌/◌, ◌%◌, ◌^◌, Bool, true, nat_lt, ◌==◌, ◌&&◌, not, if◌then◌else◌, Option, Some, None, Result, Ok, Err}
use Rattle.ow_base.specs.Words.{bits}
use Rattle.ow_base.specs.Pages.{Pages}
use Rattle.ow_base.specs.UserStep.{Spaces, size_of, fault_at}
use Rattle.ow_base.specs.declared.machine.Access.{Access}
use Rattle.ow_base.specs.declared.machine.Access.TheVariants.{Fetch, Load, Store}
use Rattle.ow_base.specs.declared.machine.Phys.{Phys}
use Rattle.ow_base.specs.declared.machine.PageCause.{PageCause}
use Rattle.ow_base.specs.declared.machine.PageCause.TheVariants as cause
use Rattle.ow_base.specs.declared.machine.Width.{Width}
use Rattle.ow_base.specs.declared.machine.Width.TheVariants.{Word}
use Rattle.ow_base.specs.declared.machine.Fault.{Fault}
use Rattle.ow_base.specs.declared.machine.Rights.{Rights}
use Rattle.ow_base.specs.declared.machine.Rights.TheVariants.{Code, Values}

-- the words of memory, by frame and place; there is none where there is no such frame
abbrev pub WordMap : Type 0
WordMap = ℕ → ℕ → Option ℕ

-- the bits of an entry by their place: V 0, R 1, W 2, X 3, U 4, A 6, D 7
abbrev pub is_set : (entry place : ℕ) → Bool
is_set entry place = bits entry place 1 == 1

-- the frame that an entry names
abbrev pub frame_named : (entry : ℕ) → ℕ
frame_named entry = bits entry 10 22

-- an entry counts where V is set, and W is not set without R
unfoldable pub is_valid : (entry : ℕ) → Bool
is_valid entry = is_set entry 0 && (if is_set entry 2 then is_set entry 1 else true)

-- it is a leaf where R or X is set, and else it names a further table
unfoldable pub is_leaf : (entry : ℕ) → Bool
is_leaf entry = if is_set entry 1 then true else is_set entry 3

-- what a leaf must have besides U and A
abbrev pub allows : Access → (entry : ℕ) → Bool
allows Fetch entry = is_set entry 3
allows Load entry = is_set entry 1
allows Store entry = is_set entry 2 && is_set entry 7

-- a leaf gives an access to a program: U is set, the right is there, A is set, and D at a store
unfoldable pub permits : Access → (entry : ℕ) → Bool
permits access entry = is_set entry 4 && (is_set entry 6 && allows access entry)

module _ (words : WordMap) (access : Access) (address : ℕ) where
  -- the place that a leaf leads to, where its frame is there
  abbrev pub place_in : (frame : ℕ) → Option ℕ → Result Phys PageCause
  place_in frame (Some word) = Ok (record { frame = frame; offset = address % 4096 })
  place_in frame None = Err cause.Access

  unfoldable pub by_leaf : (entry frame : ℕ) → Result Phys PageCause
  by_leaf entry frame = if permits access entry then place_in frame (words frame (bits address 2 10)) else Err cause.Page

  -- what an entry of the last level gives
  abbrev pub by_last : Option ℕ → Result Phys PageCause
  by_last (Some entry) = if is_valid entry && is_leaf entry then by_leaf entry (frame_named entry) else Err cause.Page
  by_last None = Err cause.Access

  -- what a leaf of the first level gives: a megapage of 1,024 frames, which must be aligned
  unfoldable pub by_megapage : (entry : ℕ) → Result Phys PageCause
  by_megapage entry = if frame_named entry % 1024 == 0 then by_leaf entry (frame_named entry + bits address 12 10) else Err cause.Page

  -- what an entry of the first level gives; of one that is no leaf only V and the frame count
  abbrev pub by_first : Option ℕ → Result Phys PageCause
  by_first (Some entry) =
      if not (is_valid entry) then Err cause.Page else
      if is_leaf entry then by_megapage entry else by_last (words (frame_named entry) (bits address 12 10))
  by_first None = Err cause.Access

-- where an access to an address leads, by the tables whose root satp names: to a place; or it is a page fault,
-- or an access fault where a table or the place lies in a frame that is not there
unfoldable pub translated : WordMap → (satp : ℕ) → (address : ℕ) → Access → Result Phys PageCause
translated words satp address access = by_first words access address (words (bits satp 0 22) (bits address 22 10))

-- the causes of the exceptions (Volume II, table of causes): page faults, and access faults
abbrev pub fault_cause : Access → PageCause → ℕ
fault_cause Fetch cause.Page = 12
fault_cause Load cause.Page = 13
fault_cause Store cause.Page = 15
fault_cause Fetch cause.Access = 1
fault_cause Load cause.Access = 5
fault_cause Store cause.Access = 7

-- byte k of a word, the lowest being byte 0
abbrev pub byte_of : (word k : ℕ) → ℕ
byte_of word k = word / 256 ^ k % 256

-- the word at a place, 0 where there is none
abbrev pub word_or_zero : Option ℕ → ℕ
word_or_zero (Some word) = word
word_or_zero None = 0

abbrev pub word_at : WordMap → Phys → ℕ
word_at words phys = word_or_zero (words phys.frame (phys.offset / 4))

-- the value of a width that a word holds from byte k on
abbrev pub value_of : (word k : ℕ) → Width → ℕ
value_of word k width = word / 256 ^ k % 256 ^ size_of width

-- the word after the low bytes of a value are written from byte k on
abbrev pub overwritten : (word k : ℕ) → Width → (value : ℕ) → ℕ
overwritten word k width value =
    word % 256 ^ k + 256 ^ k * (value % 256 ^ size_of width) + 256 ^ (k + size_of width) * (word / 256 ^ (k + size_of width))

abbrev pub read_at : WordMap → Access → Width → (address : ℕ) → Result Phys PageCause → Result ℕ Fault
read_at words access width address (Ok phys) = Ok (value_of (word_at words phys) (phys.offset % 4) width)
read_at words access width address (Err why) = Err (fault_at (fault_cause access why) address)

-- memory as a program sees it through Sv32: the image has words, the address of the root, and a way to set a word
module _ {Image : Type 0} (words : Image → WordMap) (satp : Image → ℕ) (with_word : Image → (frame place value : ℕ) → Image) where
  abbrev pub written_at : Image → Width → (value address : ℕ) → Result Phys PageCause → Result Image Fault
  written_at image width value address (Ok phys) =
      Ok (with_word image phys.frame (phys.offset / 4) (overwritten (word_at (words image) phys) (phys.offset % 4) width value))
  written_at image width value address (Err why) = Err (fault_at (fault_cause Store why) address)

  unfoldable pub sv32_space : Spaces Image
  sv32_space = record {
    fetched = λ image a. read_at (words image) Fetch Word a (translated (words image) (satp image) a Fetch);
    loaded = λ image a width. read_at (words image) Load width a (translated (words image) (satp image) a Load);
    stored = λ image a width value. written_at image width value a (translated (words image) (satp image) a Store);
  }

-- the rights to a page, from how a load and a store to it are answered
abbrev pub rights_by : (load store : Result Phys PageCause) → Option Rights
rights_by load (Ok place) = Some Values
rights_by (Ok place) (Err why) = Some Code
rights_by (Err other) (Err why) = None

abbrev pub byte_by : WordMap → Result Phys PageCause → ℕ
byte_by words (Ok phys) = byte_of (word_at words phys) (phys.offset % 4)
byte_by words (Err why) = 0

-- the pages that a program has by its tables; there is none behind the last address
unfoldable pub pages_by : WordMap → (satp : ℕ) → Pages
pages_by words satp = record {
  rights = λ page. if nat_lt page (2 ^ 20) then rights_by (translated words satp (4096 * page) Load) (translated words satp (4096 * page) Store) else None;
  bytes = λ a. if nat_lt a (2 ^ 32) then byte_by words (translated words satp a Load) else 0;
}
