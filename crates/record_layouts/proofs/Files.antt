-- How the record of a file is written, and whether it counts on a disk.
use Rattle.std.proofs.Common.{◌≡◌, ℕ, ◌<◌, Bool, false, IsTrue, ◌∙◌, ap, sym, refl, arith, inl, inr, List, [], ◌∷◌, ◌++◌, length, slice_index, slice_set, take, drop, replicate, All, Some, None}
use Rattle.std.proofs.lemmas.Bool.{cases_Bool}
use Rattle.std.proofs.lemmas.Grind.{common_steps}
use Rattle.ow_base.specs.Seals.{AreWords, seal_of, sealed}
use Rattle.record_layouts.specs.declared.file.FileRec.{FileRec}
use Rattle.record_layouts.specs.Packing.{ArePacked}
use Rattle.record_layouts.specs.File.{IsFile, FitsFile, file_in, file_on_disk, if_on_disk}
use Rattle.record_layouts.specs.Spelling.{are_below}
use Rattle.record_layouts.specs.Tests.{decides_below}
use Rattle.record_layouts.proofs.Records.{zeros}
use Rattle.record_layouts.proofs.PackedBytes.{one_reading}
use Rattle.record_layouts.proofs.Laying.{front, behind, place_behind, set_behind, seal_put, seal_at}

-- the words behind the name of a record whose last word is this one
abbrev pub behind_name : (file : FileRec) (sectors : List ℕ) (last : ℕ) → List ℕ
behind_name file sectors last = file.size ∷ file.kept ∷ (sectors ++ (replicate 20 0 ++ last ∷ []))

-- the words of that record
abbrev pub file_words : (file : FileRec) (name sectors : List ℕ) (last : ℕ) → List ℕ
file_words file name sectors last = 0x46494c45 ∷ file.state ∷ file.name_len ∷ (name ++ behind_name file sectors last)

module _ (file : FileRec) (name sectors : List ℕ) (named : length name ≡ 6) (full : length sectors ≡ 64) where
  long : (last : ℕ) → length (file_words file name sectors last) ≡ 96
  long last = grind (arith, common_steps)

  last_set : (last value : ℕ) → slice_set (file_words file name sectors last) 95 value ≡ file_words file name sectors value
  last_set last value =
      ap (λ rest. 0x46494c45 ∷ file.state ∷ file.name_len ∷ rest) (set_behind name (behind_name file sectors last) 6 86 value named)
      ∙ ap (λ rest. 0x46494c45 ∷ file.state ∷ file.name_len ∷ (name ++ (file.size ∷ file.kept ∷ rest)))
      (set_behind sectors (replicate 20 0 ++ last ∷ []) 64 20 value full)

  name_words : (last : ℕ) → take 6 (drop 3 (file_words file name sectors last)) ≡ name
  name_words last = front name (behind_name file sectors last) 6 named

  size_word : (last : ℕ) → slice_index (file_words file name sectors last) 9 ≡ file.size
  size_word last = place_behind name (behind_name file sectors last) 6 0 named

  kept_word : (last : ℕ) → slice_index (file_words file name sectors last) 10 ≡ file.kept
  kept_word last = place_behind name (behind_name file sectors last) 6 1 named

  sector_words : (last : ℕ) → take 64 (drop 11 (file_words file name sectors last)) ≡ sectors
  sector_words last =
      ap (take 64) (behind name (behind_name file sectors last) 6 2 named)
      ∙ front sectors (replicate 20 0 ++ last ∷ []) 64 full

  unused : (last : ℕ) → take 20 (drop 75 (file_words file name sectors last)) ≡ replicate 20 0
  unused last =
      ap (take 20) (behind name (behind_name file sectors last) 6 66 named ∙ behind sectors (replicate 20 0 ++ last ∷ []) 64 0 full)

-- files of which each field is the same are one
pub one_file : (a b : FileRec) → a.state ≡ b.state → a.name_len ≡ b.name_len → a.name ≡ b.name → a.size ≡ b.size → a.kept ≡ b.kept
    → a.sectors ≡ b.sectors → a ≡ b
one_file a b state name_len name size kept sectors = grind (arith, state, name_len, name, size, kept, sectors)

-- the words of a file, sealed, are its record
pub written : (file : FileRec) (name sectors words : List ℕ) → length name ≡ 6 → ArePacked name file.name
    → length sectors ≡ 64 → sectors ≡ file.sectors → FitsFile file
    → words ≡ sealed (file_words file name sectors 0) → AreWords words → IsFile words file
written file name sectors words named packed full same fits put are =
    let unsealed = file_words file name sectors 0 in
    let long_before : length unsealed ≡ 96 = long file name sectors named full 0 in
    let value = seal_of unsealed in
    let after = file_words file name sectors value in
    let laid : words ≡ after = put ∙ seal_at unsealed 95 long_before ∙ last_set file name sectors named full 0 value in
    let seal = seal_put unsealed (omega arith) in
    let bytes = name_words file name sectors named full value in
    rw laid (record {
      long = long file name sectors named full value;
      all_words = rw laid at are;
      kind = refl;
      state = refl;
      name_length = refl;
      name = rw bytes packed;
      size = size_word file name sectors named full value;
      kept = kept_word file name sectors named full value;
      sectors = sector_words file name sectors named full value ∙ same;
      unused = zeros after 75 95 (unused file name sectors named full value);
      fits = fits;
      seal = rw (← put, laid) at seal;
    })

-- the fields of the words of a file are the file, so where they do not fit there is none
abbrev pub read_fields : (words name sectors : List ℕ) → FileRec
read_fields words name sectors = record {
  state = slice_index words 1;
  name_len = slice_index words 2;
  name = name;
  size = slice_index words 9;
  kept = slice_index words 10;
  sectors = sectors;
}

pub unread : (words name sectors : List ℕ) (fits : Bool) → ArePacked (take 6 (drop 3 words)) name → sectors ≡ take 64 (drop 11 words)
    → (FitsFile (read_fields words name sectors) → IsTrue fits) → fits ≡ false → (file : FileRec) → IsFile words file → ⊥
unread words name sectors fits packed part told unfit file is =
    let same : file ≡ read_fields words name sectors =
    one_file file (read_fields words name sectors) (sym is.state) (sym is.name_length) (one_reading is.name packed) (sym is.size) (sym is.kept)
    (sym is.sectors ∙ sym part) in
    let yes : IsTrue fits = told (rw same at is.fits) in
    cc

-- whether a file counts on a disk
pub on_disk : (sectors : ℕ) (words : List ℕ) (file : FileRec) → file_in words ≡ Some file → All (λ sector. sector < sectors) (take file.kept file.sectors)
    → file_on_disk sectors words ≡ Some file
on_disk sectors words file read are = ap (if_on_disk sectors) read ∙ rw ((decides_below sectors (take file.kept file.sectors)).1 are) refl

pub not_on_disk : (sectors : ℕ) (words : List ℕ) (file : FileRec) → file_in words ≡ Some file → (All (λ sector. sector < sectors) (take file.kept file.sectors) → ⊥)
    → file_on_disk sectors words ≡ None
not_on_disk sectors words file read not = elim (cases_Bool (are_below sectors (take file.kept file.sectors))) [
  | inl all ↦ absurd (not ((decides_below sectors (take file.kept file.sectors)).0 all))
  | inr some ↦ ap (if_on_disk sectors) read ∙ rw some refl
]
