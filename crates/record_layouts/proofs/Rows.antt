-- How the record of a row is written.
use Rattle.std.proofs.Common.{◌≡◌, ℕ, ◌∙◌, ap, refl, arith, List, [], ◌∷◌, ◌++◌, length, slice_set, take}
use Rattle.std.proofs.lemmas.Grind.{common_steps}
use Rattle.ow_base.specs.Seals.{AreWords, seal_of, sealed}
use Rattle.record_layouts.specs.declared.row.RowRec.{RowRec}
use Rattle.record_layouts.specs.Packing.{ArePacked}
use Rattle.record_layouts.specs.Row.{IsRow, FitsRow}
use Rattle.record_layouts.proofs.Laying.{front, place_behind, set_behind, seal_put, seal_at}

-- the words of a record whose last word is this one
abbrev pub row_words : (row : RowRec) (text : List ℕ) (last : ℕ) → List ℕ
row_words row text last = 0x524f5753 ∷ row.place ∷ (text ++ 0 ∷ last ∷ [])

module _ (row : RowRec) (text : List ℕ) (full : length text ≡ 20) where
  long : (last : ℕ) → length (row_words row text last) ≡ 24
  long last = grind (arith, common_steps)

  last_set : (last value : ℕ) → slice_set (row_words row text last) 23 value ≡ row_words row text value
  last_set last value = ap (λ rest. 0x524f5753 ∷ row.place ∷ rest) (set_behind text (0 ∷ last ∷ []) 20 1 value full)

-- the words of a row, sealed, are its record
pub written : (row : RowRec) (text words : List ℕ) → length text ≡ 20 → ArePacked text row.text → FitsRow row
    → words ≡ sealed (row_words row text 0) → AreWords words → IsRow words row
written row text words full packed fits put are =
    let unsealed = row_words row text 0 in
    let long_before : length unsealed ≡ 24 = long row text full 0 in
    let value = seal_of unsealed in
    let after = row_words row text value in
    let laid : words ≡ after = put ∙ seal_at unsealed 23 long_before ∙ last_set row text full 0 value in
    let seal = seal_put unsealed (omega arith) in
    let bytes : take 20 (text ++ 0 ∷ value ∷ []) ≡ text = front text (0 ∷ value ∷ []) 20 full in
    rw laid (record {
      long = long row text full value;
      all_words = rw laid at are;
      kind = refl;
      place = refl;
      text = rw bytes packed;
      unused = place_behind text (0 ∷ value ∷ []) 20 0 full;
      fits = fits;
      seal = rw (← put, laid) at seal;
    })
