-- The record of an open description.
use Rattle.std.specs.Prelude.{◌≡◌, ℕ, ◌/◌, ◌%◌, ◌≤◌, ◌⊎◌, Bool, nat_le, ◌==◌, ◌&&◌, ◌||◌, List, length, slice_index, Option}
use Rattle.ow_base.specs.Seals.{AreWords, IsSealed}
use Rattle.record_layouts.specs.Spelling.{AreZero, are_zero, is_sealed_record, lies_between, only_where}
use Rattle.record_layouts.specs.declared.desc.DescRec.{DescRec}

-- it is open to read, to write or for both
abbrev pub IsMode : ℕ → Type 0
IsMode mode = (1 ≤ mode) × (mode ≤ 3)

-- nothing is open
pub record IsClosedDesc (desc : DescRec) : Type 0 where
  pub object : desc.object ≡ 0
  pub index : desc.index ≡ 0
  pub mode : desc.mode ≡ 0
  pub offset : desc.offset ≡ 0

-- a file is open
pub record IsFileDesc (desc : DescRec) : Type 0 where
  pub object : desc.object ≡ 1
  pub index : desc.index ≤ 31
  pub mode : IsMode desc.mode

-- a terminal is open
pub record IsTerminalDesc (desc : DescRec) : Type 0 where
  pub object : desc.object ≡ 2
  pub index : desc.index ≤ 1
  pub mode : IsMode desc.mode
  pub offset : desc.offset ≡ 0

-- the fields are in their ranges, and 0 where the object does not use them
abbrev pub FitsDesc : DescRec → Type 0
FitsDesc desc = IsClosedDesc desc ⊎ IsFileDesc desc ⊎ IsTerminalDesc desc

-- the same as tests: it is open on nothing, on a file or on a terminal
abbrev pub is_on_nothing : DescRec → Bool
is_on_nothing desc = desc.object == 0

abbrev pub is_on_file : DescRec → Bool
is_on_file desc = desc.object == 1

abbrev pub is_on_terminal : DescRec → Bool
is_on_terminal desc = desc.object == 2

-- mode 1 reads, 2 writes, 3 does both
abbrev pub is_open_to_read : DescRec → Bool
is_open_to_read desc = desc.mode % 2 == 1

abbrev pub is_open_to_write : DescRec → Bool
is_open_to_write desc = desc.mode / 2 == 1

-- the words are the record of this value
pub record IsDesc (words : List ℕ) (desc : DescRec) : Type 0 where
  pub long : length words ≡ 16
  pub all_words : AreWords words
  pub kind : slice_index words 0 ≡ 0x4f50454e
  pub object : slice_index words 1 ≡ desc.object
  pub index : slice_index words 2 ≡ desc.index
  pub mode : slice_index words 3 ≡ desc.mode
  pub offset : slice_index words 4 ≡ desc.offset
  pub unused : AreZero words 5 15
  pub fits : FitsDesc desc
  pub seal : IsSealed words

-- the fields that words would have as a record, whether they fit, and the value whose record the words are
abbrev pub desc_fields : (words : List ℕ) → DescRec
desc_fields words = record {
  object = slice_index words 1;
  index = slice_index words 2;
  mode = slice_index words 3;
  offset = slice_index words 4;
}

unfoldable pub fits_desc : DescRec → Bool
fits_desc desc =
    (desc.object == 0 && desc.index == 0 && desc.mode == 0 && desc.offset == 0)
    || (desc.object == 1 && nat_le desc.index 31 && lies_between 1 3 desc.mode)
    || (desc.object == 2 && nat_le desc.index 1 && lies_between 1 3 desc.mode && desc.offset == 0)

unfoldable pub desc_in : (words : List ℕ) → Option DescRec
desc_in words =
    only_where (is_sealed_record 16 0x4f50454e words && are_zero words 5 15 && fits_desc (desc_fields words)) (desc_fields words)
