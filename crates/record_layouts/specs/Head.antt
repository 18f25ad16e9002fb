-- The record of the head of an area.
use Rattle.std.specs.Prelude.{◌≡◌, ℕ, ◌≤◌, Bool, nat_le, ◌==◌, ◌&&◌, List, length, slice_index, Option}
use Rattle.ow_base.specs.Seals.{AreWords, IsSealed}
use Rattle.record_layouts.specs.Spelling.{AreZero, are_zero, is_sealed_record, lies_between, only_where}
use Rattle.record_layouts.specs.declared.head.HeadRec.{HeadRec}

-- the fields are in their ranges
pub record FitsHead (head : HeadRec) : Type 0 where
  pub layout : head.layout ≡ 1
  pub next_from : 1 ≤ head.next
  pub next_to : head.next ≤ 257
  pub hand : head.hand ≤ 63

-- the words are the record of this head
pub record IsHead (words : List ℕ) (head : HeadRec) : Type 0 where
  pub long : length words ≡ 16
  pub all_words : AreWords words
  pub kind : slice_index words 0 ≡ 0x48454144
  pub layout : slice_index words 1 ≡ head.layout
  pub served : slice_index words 2 ≡ head.served
  pub last : slice_index words 3 ≡ head.last
  pub next : slice_index words 4 ≡ head.next
  pub hand : slice_index words 5 ≡ head.hand
  pub unused : AreZero words 6 15
  pub fits : FitsHead head
  pub seal : IsSealed words

-- the fields that words would have as a record, whether they fit, and the head whose record the words are
abbrev pub head_fields : (words : List ℕ) → HeadRec
head_fields words = record {
  layout = slice_index words 1;
  served = slice_index words 2;
  last = slice_index words 3;
  next = slice_index words 4;
  hand = slice_index words 5;
}

unfoldable pub fits_head : HeadRec → Bool
fits_head head = head.layout == 1 && lies_between 1 257 head.next && nat_le head.hand 63

unfoldable pub head_in : (words : List ℕ) → Option HeadRec
head_in words =
    only_where (is_sealed_record 16 0x48454144 words && are_zero words 6 15 && fits_head (head_fields words)) (head_fields words)
