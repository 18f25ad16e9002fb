-- The record of a row of a terminal.
use Rattle.std.specs.Prelude.{◌≡◌, ℕ, ◌<◌, nat_lt, ◌==◌, ◌&&◌, List, length, take, drop, slice_index, Option}
use Rattle.record_layouts.specs.declared.row.RowRec.{RowRec}
use Rattle.ow_base.specs.Seals.{AreWords, IsSealed}
use Rattle.record_layouts.specs.Packing.{ArePacked, unpacked}
use Rattle.record_layouts.specs.Spelling.{is_sealed_record, only_where}

-- the place is one of the 48 rows of both terminals
pub record FitsRow (row : RowRec) : Type 0 where
  pub place : row.place < 48

-- the words are the record of this row
pub record IsRow (words : List ℕ) (row : RowRec) : Type 0 where
  pub long : length words ≡ 24
  pub all_words : AreWords words
  pub kind : slice_index words 0 ≡ 0x524f5753
  pub place : slice_index words 1 ≡ row.place
  pub text : ArePacked (take 20 (drop 2 words)) row.text
  pub unused : slice_index words 22 ≡ 0
  pub fits : FitsRow row
  pub seal : IsSealed words

-- the fields that words would have as a record, and the row whose record the words are
abbrev pub row_fields : (words : List ℕ) → RowRec
row_fields words = record { place = slice_index words 1; text = unpacked (take 20 (drop 2 words)) }

unfoldable pub row_in : (words : List ℕ) → Option RowRec
row_in words = only_where (is_sealed_record 24 0x524f5753 words && slice_index words 22 == 0 && nat_lt (slice_index words 1) 48) (row_fields words)
