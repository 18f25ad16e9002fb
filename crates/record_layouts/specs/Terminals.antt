-- Which terminals can be read, and the screen that the records of one show. Its 24 row records are a ring, and its own
-- record has the place in the ring of the top row of its display.
use Rattle.std.specs.Prelude.{◌≡◌, ℕ, ◌+◌, ◌*◌, ◌%◌, ◌<◌, ◌≤◌, Bool, true, not, ◌&&◌, List, [], length, drop, slice_index_or, All, Option, Some, None, is_some}
use Rattle.ow_base.specs.Screen.{Screen, screen_of}
use Rattle.record_layouts.specs.declared.term.TermRec.{TermRec}
use Rattle.record_layouts.specs.declared.row.RowRec.{RowRec}
use Rattle.record_layouts.specs.Held.{Records}
use Rattle.record_layouts.specs.Unix.Choice.{is_any}

-- the terminal's record and its 24 rows decode
pub record TerminalDecodes (records : Records) (tty : ℕ) : Type 0 where
  pub terminal : is_some (records.terms tty) ≡ true
  pub rows : (place : ℕ) → place < 24 → is_some (records.rows (24 * tty + place)) ≡ true

-- the same as a test: a row of a terminal does not decode, one of its rows does not, and the terminal does
abbrev pub is_lost_row : Records → (tty place : ℕ) → Bool
is_lost_row r tty place = not (is_some (r.rows (24 * tty + place)))

unfoldable pub lacks_row : Records → (tty : ℕ) → Bool
lacks_row r tty = is_any (is_lost_row r tty) 0 24

unfoldable pub terminal_decodes : Records → (tty : ℕ) → Bool
terminal_decodes r tty = is_some (r.terms tty) && not (lacks_row r tty)

-- the number of the row record of a display row
abbrev pub row_number : (tty top r : ℕ) → ℕ
row_number tty top r = 24 * tty + (top + r) % 24

-- the text of a row record that decodes
abbrev pub text_of : Option RowRec → Option (List ℕ)
text_of None = None
text_of (Some row) = Some row.text

-- the text of a display row under a terminal's record
abbrev pub text_under : Option TermRec → (rows : ℕ → Option RowRec) → (tty r : ℕ) → Option (List ℕ)
text_under None rows tty r = None
text_under (Some terminal) rows tty r = text_of (rows (row_number tty terminal.top r))

-- the text of a display row; none where the terminal's record or that of the row does not decode
abbrev pub display_row : Records → (tty r : ℕ) → Option (List ℕ)
display_row records tty r = text_under (records.terms tty) records.rows tty r

-- the row and the column of the cursor, where the terminal's record decodes
abbrev pub cursor_row : Option TermRec → Option ℕ
cursor_row None = None
cursor_row (Some terminal) = Some terminal.row

abbrev pub cursor_col : Option TermRec → Option ℕ
cursor_col None = None
cursor_col (Some terminal) = Some terminal.col

-- 24 rows of 80 bytes, with the cursor on them
pub record IsScreen (screen : Screen) : Type 0 where
  pub long : length screen.rows ≡ 24
  pub wide : All (λ row. length row ≡ 80) screen.rows
  pub row : screen.row < 24
  pub col : screen.col < 80

-- the records of a terminal show a screen
pub record ShowsScreen (records : Records) (tty : ℕ) (screen : Screen) : Type 0 where
  pub valid : IsScreen screen
  pub row : cursor_row (records.terms tty) ≡ Some screen.row
  pub col : cursor_col (records.terms tty) ≡ Some screen.col
  pub rows : (r : ℕ) → r < 24 → display_row records tty r ≡ Some (slice_index_or screen.rows r [])

-- The record of a terminal is of a tape: it counts the tape's bytes, its base is no more than these, and the records of the
-- terminal show the screen of the bytes from the base on.
pub record IsOfTape (records : Records) (tty : ℕ) (tape : List ℕ) (terminal : TermRec) : Type 0 where
  pub counted : terminal.written ≡ length tape
  pub base : terminal.base ≤ length tape
  pub rows : ShowsScreen records tty (screen_of (drop terminal.base tape))
