-- What a byte makes of a screen.
use Rattle.std.proofs.Common.{◌≡◌, ℕ, ◌<◌, Bool, true, false, if◌then◌else◌, List, [], ◌∷◌, ◌++◌, length, drop, slice_index_or, slice_set, All, refl, arith, ◌∙◌}
use Rattle.std.proofs.lemmas.Grind.{common_steps}
use Rattle.std.proofs.lemmas.Bool.Decides.{nat_tests}
use Rattle.std.proofs.lemmas.List.Elements.{All-set, All-drop, All-push}
use Rattle.std.proofs.lemmas.List.{length-set}
use Rattle.ow_base.specs.Screen.{Screen, blank_row, drawn, printed, on_next_line}
use Rattle.tty_screen.specs.Shown.{IsScreen}
use Rattle.tty_screen.specs.Drawing.{is_seen}
use Rattle.tty_screen.specs.Strokes.{scrolls, cursor_after}

-- the rows with a byte in the cursor's place, where it is seen
abbrev pub stroke : (rows : List (List ℕ)) → (row col byte : ℕ) → (seen : Bool) → List (List ℕ)
stroke rows row col byte seen = if seen then slice_set rows row (slice_set (slice_index_or rows row []) col byte) else rows

-- the rows, moved up by one where they move
abbrev pub moved_up : List (List ℕ) → (moves : Bool) → List (List ℕ)
moved_up rows moves = if moves then drop 1 rows ++ blank_row ∷ [] else rows

pub rows_drawn : (s : Screen) (byte : ℕ) → (drawn s byte).rows ≡ moved_up (stroke s.rows s.row s.col byte (is_seen byte)) (scrolls s.row s.col byte)
unfolding drawn printed on_next_line
rows_drawn s byte = grind (arith, nat_tests)

-- the cursor goes by cursor and byte alone
pub row_drawn : (s : Screen) (byte : ℕ) → (drawn s byte).row ≡ (cursor_after s.row s.col byte).row
unfolding drawn printed on_next_line
row_drawn s byte = grind (arith, nat_tests)

pub col_drawn : (s : Screen) (byte : ℕ) → (drawn s byte).col ≡ (cursor_after s.row s.col byte).col
unfolding drawn printed on_next_line
col_drawn s byte = grind (arith, nat_tests)

abbrev pub IsWide : List ℕ → Type 0
IsWide row = length row ≡ 80

wide_stroke : (rows : List (List ℕ)) (row col byte : ℕ) (seen : Bool) → row < length rows → All IsWide rows → All IsWide (stroke rows row col byte seen)
wide_stroke rows row col byte false within wide = wide
wide_stroke rows row col byte true within wide =
    let text = slice_index_or rows row [] in
    All-set IsWide rows row (slice_set text col byte) (length-set text col byte ∙ wide row [] within) wide

wide_moved : (rows : List (List ℕ)) (moves : Bool) → All IsWide rows → All IsWide (moved_up rows moves)
wide_moved rows false wide = wide
wide_moved rows true wide = All-push IsWide (drop 1 rows) blank_row (All-drop IsWide 1 rows wide) refl

-- a byte leaves a screen a screen
pub still_screen : {s : Screen} → IsScreen s → (byte : ℕ) → IsScreen (drawn s byte)
unfolding drawn printed on_next_line
still_screen {s} valid byte = record {
  long = grind (arith, common_steps, nat_tests, valid.long);
  wide = rw (rows_drawn s byte) (wide_moved _ _ (wide_stroke s.rows s.row s.col byte (is_seen byte) (omega (arith, valid.long, valid.row)) valid.wide));
  row = grind (arith, nat_tests, valid.row);
  col = grind (arith, nat_tests, valid.col);
}
