-- The screen of a terminal as it begins. What its records show is told where they are told.
use Rattle.std.specs.Prelude.{◌≡◌, ℕ, ◌+◌, ◌*◌, ◌<◌, Some}
use Rattle.ow_base.specs.Screen.{blank_row}
use Rattle.record_layouts.specs.Held.{Records}
pub use Rattle.record_layouts.specs.Terminals.{IsScreen, ShowsScreen, TerminalDecodes, cursor_col, cursor_row, display_row, row_number, text_of, text_under}

-- a terminal as it begins: the cursor is in row 0 and column 0, and all its rows are blank
pub record IsBlank (records : Records) (tty : ℕ) : Type 0 where
  pub row : cursor_row (records.terms tty) ≡ Some 0
  pub col : cursor_col (records.terms tty) ≡ Some 0
  pub rows : (place : ℕ) → place < 24 → text_of (records.rows (24 * tty + place)) ≡ Some blank_row
