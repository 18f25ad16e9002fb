-- The record of a file.
use Rattle.std.specs.Prelude.{◌≡◌, ℕ, ◌<◌, ◌≤◌, Bool, nat_le, ◌==◌, ◌&&◌, ◌||◌, List, length, take, drop, slice_index, All, Option, Some, None}
use Rattle.std.specs.List.{list_all}
use Rattle.ow_base.specs.World.{IsName}
use Rattle.ow_base.specs.Seals.{AreWords, IsSealed}
use Rattle.record_layouts.specs.Spelling.{AreZero, are_below, are_zero, is_sealed_record, lies_between, only_where}
use Rattle.record_layouts.specs.Packing.{ArePacked, unpacked}
use Rattle.record_layouts.specs.declared.file.FileRec.{FileRec}

-- the state says whether there is a file: where there is none nothing is said, and a file has a name
pub record FitsState (file : FileRec) : Type 0 where
  pub known : file.state ≤ 1
  pub none : file.state ≡ 0 → (file.name_len ≡ 0) × (file.size ≡ 0) × (file.kept ≡ 0)
  pub named : file.state ≡ 1 → IsName (take file.name_len file.name)

-- the fields are in their ranges, and the bytes behind the name and the data sectors behind those of the pages
-- are 0
pub record FitsFile (file : FileRec) : Type 0 where
  pub state : FitsState file
  pub name_length : file.name_len ≤ 24
  pub past_name : AreZero file.name file.name_len 24
  pub kept : file.kept ≤ 64
  pub sectors : All (λ sector. sector < 2048) (take file.kept file.sectors)
  pub past_kept : AreZero file.sectors file.kept 64

-- there is a file
abbrev pub is_present : FileRec → Bool
is_present file = file.state == 1

-- the words are the record of this file
pub record IsFile (words : List ℕ) (file : FileRec) : Type 0 where
  pub long : length words ≡ 96
  pub all_words : AreWords words
  pub kind : slice_index words 0 ≡ 0x46494c45
  pub state : slice_index words 1 ≡ file.state
  pub name_length : slice_index words 2 ≡ file.name_len
  pub name : ArePacked (take 6 (drop 3 words)) file.name
  pub size : slice_index words 9 ≡ file.size
  pub kept : slice_index words 10 ≡ file.kept
  pub sectors : take 64 (drop 11 words) ≡ file.sectors
  pub unused : AreZero words 75 95
  pub fits : FitsFile file
  pub seal : IsSealed words

-- the fields that words would have as a record, whether they fit, and the file whose record the words are
abbrev pub file_fields : (words : List ℕ) → FileRec
file_fields words = record {
  state = slice_index words 1;
  name_len = slice_index words 2;
  name = unpacked (take 6 (drop 3 words));
  size = slice_index words 9;
  kept = slice_index words 10;
  sectors = take 64 (drop 11 words);
}

unfoldable pub is_name : List ℕ → Bool
is_name name = lies_between 1 24 (length name) && list_all (λ byte. lies_between 33 126 byte) name

unfoldable pub fits_state : FileRec → Bool
fits_state file =
    (file.state == 0 && file.name_len == 0 && file.size == 0 && file.kept == 0)
    || (file.state == 1 && is_name (take file.name_len file.name))

unfoldable pub fits_file : FileRec → Bool
fits_file file =
    fits_state file && nat_le file.name_len 24 && are_zero file.name file.name_len 24
    && nat_le file.kept 64 && are_below 2048 (take file.kept file.sectors) && are_zero file.sectors file.kept 64

unfoldable pub file_in : (words : List ℕ) → Option FileRec
file_in words =
    only_where (is_sealed_record 96 0x46494c45 words && are_zero words 75 95 && fits_file (file_fields words)) (file_fields words)

-- the file, where each of its data sectors is one of a disk of so many
abbrev pub if_on_disk : (sectors : ℕ) → Option FileRec → Option FileRec
if_on_disk sectors (Some file) = only_where (are_below sectors (take file.kept file.sectors)) file
if_on_disk sectors None = None

abbrev pub file_on_disk : (sectors : ℕ) → (words : List ℕ) → Option FileRec
file_on_disk sectors words = if_on_disk sectors (file_in words)
