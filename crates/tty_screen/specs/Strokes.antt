-- The parts of a patch that draws a byte: the terminal's record, the row in which the byte is seen, and the row that
-- is blanked.
use Rattle.std.specs.Prelude.{ℕ, ◌+◌, ◌%◌, Bool, ◌&&◌, ◌||◌, ◌==◌, if◌then◌else◌, List, [], ◌∷◌, ◌++◌, slice_set, Option, Some, None}
use Rattle.ow_base.specs.Screen.{Screen, blank_row, drawn}
use Rattle.record_layouts.specs.declared.term.TermRec.{TermRec}
use Rattle.record_layouts.specs.declared.row.RowRec.{RowRec}
use Rattle.record_layouts.specs.declared.places.RecordId.TheVariants as id
use Rattle.record_layouts.specs.declared.patch.AnyRec.TheVariants as any
use Rattle.record_layouts.specs.declared.patch.PatchItem.{PatchItem}
use Rattle.tty_screen.specs.Drawing.{is_seen}

-- the byte moves all rows up: it ends the line of a cursor that is in row 23
abbrev pub scrolls : (row col byte : ℕ) → Bool
scrolls row col byte = row == 23 && (byte == 10 || is_seen byte && col == 79)

-- the place of the top row in the ring after the byte
abbrev pub top_after : TermRec → (byte : ℕ) → ℕ
top_after terminal byte = if scrolls terminal.row terminal.col byte then (terminal.top + 1) % 24 else terminal.top

-- a screen with the cursor where the byte leaves it; its rows are of no account
abbrev pub cursor_after : (row col byte : ℕ) → Screen
cursor_after row col byte = drawn (record { rows = []; row = row; col = col }) byte

-- the row record with this number and a byte set in a column
abbrev pub with_byte : Option RowRec → (number col byte : ℕ) → Option RowRec
with_byte None number col byte = None
with_byte (Some row) number col byte = Some (record { place = number; text = slice_set row.text col byte })

-- the blank row record with this number
abbrev pub blank_record : (number : ℕ) → RowRec
blank_record number = record { place = number; text = blank_row }

-- what sets a row record, where there is one
abbrev pub row_items : Option RowRec → List PatchItem
row_items None = []
row_items (Some row) = record { id = id.Row row.place; rec = any.Row row } ∷ []

-- what sets a terminal's record and up to two rows
abbrev pub byte_items : (tty : ℕ) → TermRec → (seen blanked : Option RowRec) → List PatchItem
byte_items tty after seen blanked = record { id = id.Term tty; rec = any.Term after } ∷ (row_items seen ++ row_items blanked)
