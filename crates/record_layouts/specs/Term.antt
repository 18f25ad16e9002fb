-- The record of a terminal.
use Rattle.std.specs.Prelude.{◌≡◌, ℕ, ◌≤◌, Bool, nat_le, ◌&&◌, List, length, slice_index, Option}
use Rattle.ow_base.specs.Seals.{AreWords, IsSealed}
use Rattle.record_layouts.specs.Spelling.{AreZero, are_zero, is_sealed_record, only_where}
use Rattle.record_layouts.specs.declared.term.TermRec.{TermRec}

-- the fields are in their ranges
pub record FitsTerm (term : TermRec) : Type 0 where
  pub tty : term.tty ≤ 1
  pub last : term.last ≤ 255
  pub top : term.top ≤ 23
  pub row : term.row ≤ 23
  pub col : term.col ≤ 79

-- the words are the record of this value
pub record IsTerm (words : List ℕ) (term : TermRec) : Type 0 where
  pub long : length words ≡ 16
  pub all_words : AreWords words
  pub kind : slice_index words 0 ≡ 0x5445524d
  pub tty : slice_index words 1 ≡ term.tty
  pub written : slice_index words 2 ≡ term.written
  pub last : slice_index words 3 ≡ term.last
  pub consumed : slice_index words 4 ≡ term.consumed
  pub top : slice_index words 5 ≡ term.top
  pub row : slice_index words 6 ≡ term.row
  pub col : slice_index words 7 ≡ term.col
  pub base : slice_index words 8 ≡ term.base
  pub unused : AreZero words 9 15
  pub fits : FitsTerm term
  pub seal : IsSealed words

-- the fields that words would have as a record, whether they fit, and the value whose record the words are
abbrev pub term_fields : (words : List ℕ) → TermRec
term_fields words = record {
  tty = slice_index words 1;
  written = slice_index words 2;
  last = slice_index words 3;
  consumed = slice_index words 4;
  top = slice_index words 5;
  row = slice_index words 6;
  col = slice_index words 7;
  base = slice_index words 8;
}

unfoldable pub fits_term : TermRec → Bool
fits_term term = nat_le term.tty 1 && nat_le term.last 255 && nat_le term.top 23 && nat_le term.row 23 && nat_le term.col 79

unfoldable pub term_in : (words : List ℕ) → Option TermRec
term_in words =
    only_where (is_sealed_record 16 0x5445524d words && are_zero words 9 15 && fits_term (term_fields words)) (term_fields words)
