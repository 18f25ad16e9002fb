-- Laws on the screens that records show.
use Rattle.std.proofs.Common.{◌≡◌, ℕ, suc, ◌+◌, ◌-◌, ◌*◌, ◌%◌, ◌<◌, true, List, [], ◌∷◌, ◌++◌, length, slice_index_or, get_or, All, lit<, Option, Some, None, is_some, refl, arith, sym, ◌∙◌, ap, subst}
use Rattle.std.proofs.lemmas.Bool.Decides.{nat_tests}
use Rattle.std.proofs.lemmas.List.{same_lists, get_or_default, get_or-replicate}
use Rattle.ow_base.specs.Screen.{Screen, blank_row, blank_screen, drawn, drawn_all, screen_of}
use Rattle.record_layouts.specs.declared.term.TermRec.{TermRec}
use Rattle.record_layouts.specs.declared.row.RowRec.{RowRec}
use Rattle.record_layouts.specs.declared.places.RecordId.{RecordId}
use Rattle.record_layouts.specs.declared.places.RecordId.TheVariants as id
use Rattle.record_layouts.specs.declared.patch.AnyRec.{AnyRec}
use Rattle.record_layouts.specs.declared.patch.AnyRec.TheVariants as any
use Rattle.record_layouts.specs.declared.patch.PatchItem.{PatchItem}
use Rattle.record_layouts.specs.Held.{Records, with_items, with_record}
use Rattle.tty_screen.specs.Shown.{ShowsScreen, IsBlank, TerminalDecodes, row_number, text_of, text_under, cursor_row}
use Rattle.tty_screen.specs.Drawing.{DrawsAll, DrawsByte, with_patches, IsOfTerminal, IsRowOf, StaysBeside}

-- records show one screen at most
same_row : {a b : Option ℕ} {m n : ℕ} → a ≡ b → a ≡ Some m → b ≡ Some n → m ≡ n
same_row same is is_too = cc

same_text : {a : Option (List ℕ)} {s t : List ℕ} → a ≡ Some s → a ≡ Some t → s ≡ t
same_text is is_too = cc

same_screen : {a b : Screen} → a.rows ≡ b.rows → a.row ≡ b.row → a.col ≡ b.col → a ≡ b
same_screen rows row col = grind (arith, rows, row, col)

pub one_screen : {records : Records} {tty : ℕ} {a b : Screen} → ShowsScreen records tty a → ShowsScreen records tty b → a ≡ b
one_screen {records} {tty} {a} {b} shows shows_too =
    let row : a.row ≡ b.row = same_row refl shows.row shows_too.row in
    let col : a.col ≡ b.col = same_row refl shows.col shows_too.col in
    let at : (r : ℕ) (d : List ℕ) → r < length a.rows → get_or a.rows r d ≡ get_or b.rows r d = λ r d within.
    let low : r < 24 = omega (arith, shows.valid.long) in
    let within_too : r < length b.rows = omega (arith, shows_too.valid.long) in
    let text : get_or a.rows r [] ≡ get_or b.rows r [] = same_text (shows.rows r low) (shows_too.rows r low) in
    get_or_default a.rows r d [] within ∙ (text ∙ get_or_default b.rows r [] d within_too) in
    same_screen (same_lists a.rows b.rows (shows.valid.long ∙ sym shows_too.valid.long) at) row col

-- a record of the ring is that of some display row
pub row_of_place : (tty top place : ℕ) → place < 24 → row_number tty top ((place + (24 - top % 24)) % 24) ≡ 24 * tty + place
row_of_place tty top place small = omega arith

some_text : (found : Option RowRec) {text : List ℕ} → text_of found ≡ Some text → is_some found ≡ true
some_text None text = cc
some_text (Some row) text = refl

decodes_under : (terminal : Option TermRec) (rows : ℕ → Option RowRec) (tty place : ℕ) → place < 24
    → (texts : ℕ → List ℕ) → ((r : ℕ) → r < 24 → text_under terminal rows tty r ≡ Some (texts r)) → is_some (rows (24 * tty + place)) ≡ true
decodes_under None rows tty place small texts each =
    let none = each 0 (omega arith) in cc
decodes_under (Some terminal) rows tty place small texts each =
    let r = (place + (24 - terminal.top % 24)) % 24 in
    let text = each r (omega arith) in
    some_text (rows (24 * tty + place)) (rw (row_of_place tty terminal.top place small) at text)

some_number : (terminal : Option TermRec) {n : ℕ} → cursor_row terminal ≡ Some n → is_some terminal ≡ true
some_number None row = cc
some_number (Some terminal) row = refl

-- where records show a screen they decode
pub decodes : {records : Records} {tty : ℕ} {screen : Screen} → ShowsScreen records tty screen → TerminalDecodes records tty
decodes {records} {tty} {screen} shows = record {
  terminal = some_number (records.terms tty) shows.row;
  rows = λ place small. decodes_under (records.terms tty) records.rows tty place small (λ r. slice_index_or screen.rows r []) shows.rows;
}

-- a blank terminal shows the blank screen
blank_under : (terminal : Option TermRec) (rows : ℕ → Option RowRec) (tty r : ℕ) → r < 24 → cursor_row terminal ≡ Some 0
    → ((place : ℕ) → place < 24 → text_of (rows (24 * tty + place)) ≡ Some blank_row) → text_under terminal rows tty r ≡ Some blank_row
blank_under None rows tty r small row each = cc
blank_under (Some terminal) rows tty r small row each = each ((terminal.top + r) % 24) (omega arith)

pub blank_shows : {records : Records} {tty : ℕ} → IsBlank records tty → ShowsScreen records tty blank_screen
unfolding blank_screen
blank_shows {records} {tty} blank = record {
  valid = record { long = refl; wide = λ k d small. rw (get_or-replicate 24 k blank_row d small) refl; row = lit< tt; col = lit< tt };
  row = blank.row;
  col = blank.col;
  rows = λ r small. blank_under (records.terms tty) records.rows tty r small blank.row blank.rows ∙ ap (λ (text : List ℕ). Some text) (sym (get_or-replicate 24 r blank_row [] small));
}

-- bytes that are drawn one after the other
pub draws_all : (records : Records) (tty : ℕ) (screen : Screen) (bytes : List ℕ) (patches : List (List PatchItem))
    → ShowsScreen records tty screen → DrawsAll records tty bytes patches → ShowsScreen (with_patches records patches) tty (drawn_all screen bytes)
draws_all records tty screen [] [] shows each = shows
draws_all records tty screen [] (items ∷ patches) shows each = absurd each
draws_all records tty screen (byte ∷ bytes) [] shows each = absurd each
draws_all records tty screen (byte ∷ bytes) (items ∷ patches) shows each =
    draws_all (with_items records items) tty (drawn screen byte) bytes patches (each.0 screen shows) each.1

pub drawn_all-push : (screen : Screen) (bytes : List ℕ) (byte : ℕ) → drawn_all screen (bytes ++ byte ∷ []) ≡ drawn (drawn_all screen bytes) byte
drawn_all-push screen [] byte = refl
drawn_all-push screen (b ∷ bytes) byte = drawn_all-push (drawn screen b) bytes byte

pub draws_tape : (records : Records) (tty byte : ℕ) (bytes : List ℕ) (items : List PatchItem)
    → ShowsScreen records tty (screen_of bytes) → DrawsByte records tty byte items → ShowsScreen (with_items records items) tty (screen_of (bytes ++ byte ∷ []))
unfolding screen_of
draws_tape records tty byte bytes items shows draws = rw (drawn_all-push blank_screen bytes byte) (draws (drawn_all blank_screen bytes) shows)

-- the screen is a matter of the terminal's record and its rows alone
under_same : (terminal : Option TermRec) (old new : ℕ → Option RowRec) (tty r : ℕ) → r < 24 → ((index : ℕ) → IsRowOf tty index → new index ≡ old index)
    → text_under terminal new tty r ≡ text_under terminal old tty r
under_same None old new tty r small same = refl
under_same (Some terminal) old new tty r small same = ap text_of (same (row_number tty terminal.top r) (omega arith, omega arith))

pub shows_same : {old new : Records} {tty : ℕ} {screen : Screen} → new.terms tty ≡ old.terms tty → ((index : ℕ) → IsRowOf tty index → new.rows index ≡ old.rows index)
    → ShowsScreen old tty screen → ShowsScreen new tty screen
shows_same {old} {new} {tty} {screen} terminal rows shows = record {
  valid = shows.valid;
  row = rw terminal shows.row;
  col = rw terminal shows.col;
  rows = λ r small. rw terminal (under_same (old.terms tty) old.rows new.rows tty r small rows ∙ shows.rows r small);
}

-- a record that is not of the terminal
term_outside : (records : Records) (tty : ℕ) (which : RecordId) (rec : AnyRec) → (IsOfTerminal tty which → ⊥) → (with_record records which rec).terms tty ≡ records.terms tty
term_outside records tty id.Head (any.Head rec) outside = refl
term_outside records tty (id.Proc number) (any.Proc rec) outside = refl
term_outside records tty (id.Sig number) (any.Sig rec) outside = refl
term_outside records tty (id.Desc number) (any.Desc rec) outside = refl
term_outside records tty (id.File number) (any.File rec) outside = refl
term_outside records tty (id.Cache number) (any.Cache rec) outside = refl
term_outside records tty (id.Term number) (any.Term rec) outside = grind (arith, nat_tests, outside)
term_outside records tty (id.Row number) (any.Row rec) outside = refl
term_outside records tty (id.Exit number) (any.Exit rec) outside = refl
term_outside records tty which rec outside = refl

row_outside : (records : Records) (tty : ℕ) (which : RecordId) (rec : AnyRec) → (IsOfTerminal tty which → ⊥)
    → (index : ℕ) → IsRowOf tty index → (with_record records which rec).rows index ≡ records.rows index
row_outside records tty id.Head (any.Head rec) outside index within = refl
row_outside records tty (id.Proc number) (any.Proc rec) outside index within = refl
row_outside records tty (id.Sig number) (any.Sig rec) outside index within = refl
row_outside records tty (id.Desc number) (any.Desc rec) outside index within = refl
row_outside records tty (id.File number) (any.File rec) outside index within = refl
row_outside records tty (id.Cache number) (any.Cache rec) outside index within = refl
row_outside records tty (id.Term number) (any.Term rec) outside index within = refl
row_outside records tty (id.Row number) (any.Row rec) outside index within =
    let other : (index ≡ number → ⊥) = λ same. outside (subst (IsRowOf tty) same within) in
    grind (arith, nat_tests, other)
row_outside records tty (id.Exit number) (any.Exit rec) outside index within = refl
row_outside records tty which rec outside index within = refl

-- a patch with no record of the terminal
pub shows_outside : (records : Records) (tty : ℕ) (screen : Screen) (items : List PatchItem)
    → All (λ (item : PatchItem). IsOfTerminal tty item.id → ⊥) items → ShowsScreen records tty screen → ShowsScreen (with_items records items) tty screen
shows_outside records tty screen [] outside shows = shows
shows_outside records tty screen (item ∷ items) outside shows =
    let here : (IsOfTerminal tty item.id → ⊥) = outside 0 item (omega arith) in
    shows_outside (with_record records item.id item.rec) tty screen items (λ k d small. outside (suc k) d (omega arith))
    (shows_same (term_outside records tty item.id item.rec here) (row_outside records tty item.id item.rec here) shows)

-- changes of a terminal's records, one after the other
pub beside_none : (tty : ℕ) (records : Records) → StaysBeside tty records records
beside_none tty records = record { rest = refl; terms = λ other not. refl; rows = λ index not. refl }

pub beside_more : {tty : ℕ} {old middle new : Records} → StaysBeside tty old middle → StaysBeside tty middle new → StaysBeside tty old new
beside_more {tty} {old} {middle} {new} first second = record {
  rest = second.rest ∙ ap (λ (r : Records). record r { terms = new.terms; rows = new.rows }) first.rest;
  terms = λ other not. second.terms other not ∙ first.terms other not;
  rows = λ index not. second.rows index not ∙ first.rows index not;
}
