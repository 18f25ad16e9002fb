-- What the records of a terminal show once the patch of a byte is laid over them.
use Rattle.std.proofs.Common.{◌≡◌, ℕ, ◌<◌, if◌then◌else◌, Option, Some, None, refl, arith, sym, ◌∙◌}
use Rattle.std.proofs.lemmas.Bool.Decides.{nat_tests}
use Rattle.ow_base.specs.Screen.{Screen, drawn}
use Rattle.ow_base.specs.Words.{updated}
use Rattle.record_layouts.specs.declared.term.TermRec.{TermRec}
use Rattle.record_layouts.specs.declared.row.RowRec.{RowRec}
use Rattle.record_layouts.specs.Held.{Records, with_items}
use Rattle.tty_screen.specs.Shown.{IsScreen, ShowsScreen, row_number}
use Rattle.tty_screen.specs.Drawing.{is_seen}
use Rattle.tty_screen.specs.Strokes.{scrolls, top_after, cursor_after, with_byte, blank_record, byte_items}
use Rattle.tty_screen.proofs.RowRing.{AreShown, with_row, stroked, scrolled}
use Rattle.tty_screen.proofs.Screens.{rows_drawn, row_drawn, col_drawn, still_screen}

terms_after : (records : Records) (tty : ℕ) (after : TermRec) (seen blanked : Option RowRec)
    → (with_items records (byte_items tty after seen blanked)).terms ≡ updated records.terms tty (Some after)
terms_after records tty after None None = refl
terms_after records tty after None (Some blanked) = refl
terms_after records tty after (Some seen) None = refl
terms_after records tty after (Some seen) (Some blanked) = refl

rows_after : (records : Records) (tty : ℕ) (after : TermRec) (seen blanked : Option RowRec)
    → (with_items records (byte_items tty after seen blanked)).rows ≡ with_row (with_row records.rows seen) blanked
rows_after records tty after None None = refl
rows_after records tty after None (Some blanked) = refl
rows_after records tty after (Some seen) None = refl
rows_after records tty after (Some seen) (Some blanked) = refl

-- the row in which a byte is seen, and the row that is blanked
abbrev pub seen_in : Records → (tty : ℕ) → TermRec → (byte : ℕ) → Option RowRec
seen_in records tty terminal byte =
    let number = row_number tty terminal.top terminal.row in
    if is_seen byte then with_byte (records.rows number) number terminal.col byte else None

abbrev pub blanked_in : (tty : ℕ) → TermRec → (byte : ℕ) → Option RowRec
blanked_in tty terminal byte = if scrolls terminal.row terminal.col byte then Some (blank_record (row_number tty terminal.top 0)) else None

-- a terminal's record that decodes, and what it shows
record Showing (records : Records) (tty : ℕ) (screen : Screen) (terminal : TermRec) : Type 0 where
  row : screen.row ≡ terminal.row
  col : screen.col ≡ terminal.col
  rows : AreShown records.rows tty terminal.top screen.rows

showing : {records : Records} {tty : ℕ} {screen : Screen} → ShowsScreen records tty screen → (terminal : TermRec) → records.terms tty ≡ Some terminal
    → Showing records tty screen terminal
showing {records} {tty} {screen} shows terminal there =
    let row = rw there at shows.row in
    let col = rw there at shows.col in
    record {
      row = cc;
      col = cc;
      rows = record { long = shows.valid.long; each = λ r small. rw there at (shows.rows r small) };
    }

-- the other way round
shows_at : {records : Records} {tty : ℕ} {screen : Screen} → IsScreen screen → (terminal : TermRec) → records.terms tty ≡ Some terminal
    → Showing records tty screen terminal → ShowsScreen records tty screen
shows_at valid terminal there showing = record {
  valid = valid;
  row = rw there (cc);
  col = rw there (cc);
  rows = λ r small. rw there (showing.rows.each r small);
}

rows_shown : {records : Records} {tty : ℕ} {screen : Screen} (before : TermRec) (byte : ℕ) → Showing records tty screen before → before.row < 24
    → AreShown (with_row (with_row records.rows (seen_in records tty before byte)) (blanked_in tty before byte)) tty (top_after before byte) (drawn screen byte).rows
rows_shown {records} {tty} {screen} before byte showing small =
    let seen = stroked showing.rows before.row small before.col byte (is_seen byte) in
    let moved = scrolled seen (scrolls before.row before.col byte) in
    rw (rows_drawn screen byte, showing.row, showing.col) moved

-- the patch of a byte draws it
pub draws : {records : Records} {tty : ℕ} {screen : Screen} → ShowsScreen records tty screen → (before after : TermRec) (byte : ℕ)
    → records.terms tty ≡ Some before → after.top ≡ top_after before byte
    → after.row ≡ (cursor_after before.row before.col byte).row → after.col ≡ (cursor_after before.row before.col byte).col
    → (seen blanked : Option RowRec) → seen ≡ seen_in records tty before byte → blanked ≡ blanked_in tty before byte
    → ShowsScreen (with_items records (byte_items tty after seen blanked)) tty (drawn screen byte)
draws {records} {tty} {screen} shows before after byte there top row col seen blanked seen_is blanked_is =
    let here = showing shows before there in
    let small : before.row < 24 = omega (arith, here.row, shows.valid.row) in
    let rows = rows_shown before byte here small in
    shows_at (still_screen shows.valid byte) after (rw (terms_after records tty after seen blanked) (grind (arith, nat_tests))) (record {
      row = row_drawn screen byte ∙ rw (here.row, here.col) (sym row);
      col = col_drawn screen byte ∙ rw (here.row, here.col) (sym col);
      rows = rw (rows_after records tty after seen blanked, top, seen_is, blanked_is) rows;
    })
