-- The ring of a terminal's rows: what a display shows after a row was set, and after it turned.
use Rattle.std.proofs.Common.{◌≡◌, ◌≢◌, ℕ, ◌+◌, ◌%◌, ◌<◌, Bool, true, false, if◌then◌else◌, List, [], ◌∷◌, ◌++◌, length, drop, slice_index_or, slice_set, Option, Some, None, arith, inl, inr}
use Rattle.std.proofs.lemmas.Grind.{common_steps}
use Rattle.std.proofs.lemmas.Bool.{cases_lt}
use Rattle.ow_base.specs.Screen.{blank_row}
use Rattle.ow_base.specs.Words.{updated}
use Rattle.record_layouts.specs.declared.row.RowRec.{RowRec}
use Rattle.tty_screen.specs.Shown.{row_number, text_of}
use Rattle.tty_screen.specs.Strokes.{with_byte, blank_record}

-- these are the texts of the display rows, where the top row has this place
pub record AreShown (rows : ℕ → Option RowRec) (tty top : ℕ) (texts : List (List ℕ)) : Type 0 where
  pub long : length texts ≡ 24
  pub each : (r : ℕ) → r < 24 → text_of (rows (row_number tty top r)) ≡ Some (slice_index_or texts r [])

-- two rows of a display have two records
pub apart : (tty top k r : ℕ) → k < 24 → r < 24 → r ≢ k → row_number tty top r ≢ row_number tty top k
apart tty top k r low low_too other = omega arith

-- a row is set
pub set_row : {rows : ℕ → Option RowRec} {tty top : ℕ} {texts : List (List ℕ)} → AreShown rows tty top texts → (k : ℕ) → k < 24 → (new : RowRec)
    → AreShown (updated rows (row_number tty top k) (Some new)) tty top (slice_set texts k new.text)
set_row {rows} {tty} {top} {texts} shown k low new = record {
  long = grind (arith, common_steps, shown.long);
  each = λ r small. grind (arith, common_steps, apart tty top k r low small, shown.each r small, shown.long);
}

-- the place of a row once the top row is the next one
pub next_place : (tty top r : ℕ) → row_number tty ((top + 1) % 24) r ≡ row_number tty top (r + 1)
next_place tty top r = omega arith

-- the row that was on top is the last one then
pub last_place : (tty top : ℕ) → row_number tty ((top + 1) % 24) 23 ≡ row_number tty top 0
last_place tty top = omega arith

-- the ring turns by one place, and its last row is set
turned_above : {rows : ℕ → Option RowRec} {tty top : ℕ} {texts : List (List ℕ)} → AreShown rows tty top texts → (new : RowRec) → (r : ℕ) → r < 23
    → text_of (updated rows (row_number tty top 0) (Some new) (row_number tty ((top + 1) % 24) r)) ≡ Some (slice_index_or (drop 1 texts ++ new.text ∷ []) r [])
turned_above {rows} {tty} {top} {texts} shown new r small =
    grind (arith, common_steps, next_place tty top r, apart tty top 0 (r + 1) (omega arith) (omega arith) (omega arith), shown.each (r + 1) (omega arith), shown.long)

turned_last : {rows : ℕ → Option RowRec} {tty top : ℕ} {texts : List (List ℕ)} → AreShown rows tty top texts → (new : RowRec) → (r : ℕ) → r ≡ 23
    → text_of (updated rows (row_number tty top 0) (Some new) (row_number tty ((top + 1) % 24) r)) ≡ Some (slice_index_or (drop 1 texts ++ new.text ∷ []) r [])
turned_last {rows} {tty} {top} {texts} shown new r last =
    grind (arith, common_steps, last_place tty top, shown.long)

pub turned : {rows : ℕ → Option RowRec} {tty top : ℕ} {texts : List (List ℕ)} → AreShown rows tty top texts → (new : RowRec)
    → AreShown (updated rows (row_number tty top 0) (Some new)) tty ((top + 1) % 24) (drop 1 texts ++ new.text ∷ [])
turned {rows} {tty} {top} {texts} shown new = record {
  long = grind (arith, common_steps, shown.long);
  each = λ r small. elim (cases_lt r 23) [ inl above ↦ turned_above shown new r above | inr below ↦ turned_last shown new r (omega arith) ];
}

-- a row record is set, where there is one
abbrev pub with_row : (ℕ → Option RowRec) → Option RowRec → ℕ → Option RowRec
with_row rows None = rows
with_row rows (Some row) = updated rows row.place (Some row)

-- a byte is set in the record of a row
byte_in : {rows : ℕ → Option RowRec} {tty top : ℕ} {texts : List (List ℕ)} → AreShown rows tty top texts → (row : ℕ) → row < 24 → (col byte : ℕ)
    → (found : Option RowRec) → text_of found ≡ Some (slice_index_or texts row [])
    → AreShown (with_row rows (with_byte found (row_number tty top row) col byte)) tty top (slice_set texts row (slice_set (slice_index_or texts row []) col byte))
byte_in shown row small col byte None text = cc
byte_in {rows} {tty} {top} {texts} shown row small col byte (Some old) text =
    let same : old.text ≡ slice_index_or texts row [] = cc in
    rw (← same) (set_row shown row small (record { place = row_number tty top row; text = slice_set old.text col byte }))

pub stroked : {rows : ℕ → Option RowRec} {tty top : ℕ} {texts : List (List ℕ)} → AreShown rows tty top texts → (row : ℕ) → row < 24 → (col byte : ℕ) → (seen : Bool)
    → AreShown (with_row rows (if seen then with_byte (rows (row_number tty top row)) (row_number tty top row) col byte else None)) tty top
    (if seen then slice_set texts row (slice_set (slice_index_or texts row []) col byte) else texts)
stroked shown row small col byte false = shown
stroked {rows} {tty} {top} shown row small col byte true = byte_in shown row small col byte (rows (row_number tty top row)) (shown.each row small)

pub scrolled : {rows : ℕ → Option RowRec} {tty top : ℕ} {texts : List (List ℕ)} → AreShown rows tty top texts → (moves : Bool)
    → AreShown (with_row rows (if moves then Some (blank_record (row_number tty top 0)) else None)) tty (if moves then (top + 1) % 24 else top)
    (if moves then drop 1 texts ++ blank_row ∷ [] else texts)
scrolled shown false = shown
scrolled {rows} {tty} {top} shown true = turned shown (blank_record (row_number tty top 0))
