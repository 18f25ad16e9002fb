-- A terminal's screen: what a person sees after some bytes.
use Rattle.std.specs.Prelude.{ℕ, ◌+◌, ◌-◌, nat_le, ◌&&◌, ◌==◌, if◌then◌else◌, List, [], ◌∷◌, ◌++◌, drop, slice_set, slice_index_or, replicate}

-- 24 rows of 80 bytes, and the cursor's row and column
pub record Screen : Type 0 where
  pub rows : List (List ℕ)
  pub row : ℕ
  pub col : ℕ

abbrev pub blank_row : List ℕ
blank_row = replicate 80 32

unfoldable pub blank_screen : Screen
blank_screen = record { rows = replicate 24 blank_row; row = 0; col = 0 }

-- the cursor goes to column 0 of the next line; behind row 23 all rows move up by one, and row 23 is blank
unfoldable pub on_next_line : Screen → Screen
on_next_line s =
    if s.row == 23 then record { rows = drop 1 s.rows ++ blank_row ∷ []; row = 23; col = 0 }
    else record { rows = s.rows; row = s.row + 1; col = 0 }

-- a byte that is drawn is set at the cursor, which goes right, or behind column 79 to the next line
unfoldable pub printed : Screen → (byte : ℕ) → Screen
printed s byte =
    let rows = slice_set s.rows s.row (slice_set (slice_index_or s.rows s.row []) s.col byte) in
    if s.col == 79 then on_next_line (record { rows = rows; row = s.row; col = 79 })
    else record { rows = rows; row = s.row; col = s.col + 1 }

-- one byte: 32 to 126 are drawn, 10 goes to the next line, 13 to column 0, 8 one column left; others draw nothing
unfoldable pub drawn : Screen → (byte : ℕ) → Screen
drawn s byte =
    if nat_le 32 byte && nat_le byte 126 then printed s byte else
    if byte == 10 then on_next_line s else
    if byte == 13 then record { rows = s.rows; row = s.row; col = 0 } else
    if byte == 8 then record { rows = s.rows; row = s.row; col = s.col - 1 } else s

-- the bytes one after the other
abbrev pub drawn_all : Screen → (bytes : List ℕ) → Screen
drawn_all s [] = s
drawn_all s (b ∷ bs) = drawn_all (drawn s b) bs

-- the screen that bytes give, from a blank one
unfoldable pub screen_of : (bytes : List ℕ) → Screen
screen_of bytes = drawn_all blank_screen bytes
