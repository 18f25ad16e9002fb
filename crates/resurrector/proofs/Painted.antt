-- A display of which a row is painted.
use Rattle.std.proofs.Common.{◌≡◌, ◌≢◌, ℕ, ◌+◌, ◌*◌, ◌%◌, ◌<◌, ◌≤◌, ◌==◌, Bool, true, false, if◌then◌else◌, List, [], length, slice_set, Option, Some, None, is_some, refl, sym, subst, ap, ◌∙◌, inl, inr, arith, length-set}
use Rattle.std.proofs.lemmas.Bool.{cases_eq}
use Rattle.std.proofs.lemmas.Bool.Decides.{nat_tests}
use Rattle.std.proofs.lemmas.Grind.{common_steps}
use Rattle.std.proofs.lemmas.List.{get_or-set_other, get_or-set_same}
use Rattle.std.proofs.lemmas.List.Elements.{All-from_get_or}
use Rattle.ow_base.specs.Sv32.{WordMap}
use Rattle.phys_memory.specs.Halves.{words_from}
use Rattle.record_layouts.specs.Held.{Records}
use Rattle.record_layouts.specs.Reading.{records_of}
use Rattle.record_layouts.specs.declared.memory_map.MemoryMap.{MemoryMap}
use Rattle.ow_plant.specs.Owning.{own_words}
use Rattle.ow_plant.specs.declared.own_half.Own.{Own}
use Rattle.ow_plant.specs.declared.own_half.OwnPlace.{OwnPlace}
use Rattle.record_layouts.specs.Terminals.{TerminalDecodes, display_row, row_number}
use Rattle.record_layouts.specs.declared.term.TermRec.{TermRec}
use Rattle.record_layouts.specs.declared.row.RowRec.{RowRec}
use Rattle.record_layouts.specs.Terminals.{ShowsScreen, cursor_col, cursor_row, text_of, text_under}
use Rattle.ow_plant.specs.Lent.{LentState, lent_counted, lent_cursor_at, lent_refused, lent_tty, with_tty}
use Rattle.ow_plant.specs.State.{Device, first_refusal, risen, with_cursor}
use Rattle.ow_plant.specs.declared.refusal.Refusal.{Refusal}
use Rattle.resurrector.specs.Painting.{ChangesDisplay, ChangesDisplays, ShowsRows}

text_there : (row : Option RowRec) → is_some row ≡ true → is_some (text_of row) ≡ true
text_there (Some row) is = refl
text_there None is = grind (arith, is)

row_there : (terminal : Option TermRec) (rows : ℕ → Option RowRec) (tty row : ℕ) → is_some terminal ≡ true
    → ((place : ℕ) → place < 24 → is_some (rows (24 * tty + place)) ≡ true) → is_some (text_under terminal rows tty row) ≡ true
row_there (Some terminal) rows tty row is each = text_there (rows (row_number tty terminal.top row)) (each ((terminal.top + row) % 24) (omega arith))
row_there None rows tty row is each = grind (arith, is)

-- each row of a terminal that decodes is there
pub display_row_there : (r : Records) (tty row : ℕ) → TerminalDecodes r tty → is_some (display_row r tty row) ≡ true
display_row_there r tty row decodes = row_there (r.terms tty) r.rows tty row decodes.terminal decodes.rows

-- one row more is shown
pub next_row : (r : Records) (tty count : ℕ) (rows : List (List ℕ)) (text : List ℕ) → count < 24 → length text ≡ 80 → display_row r tty count ≡ Some text
    → ShowsRows r tty count rows → ShowsRows r tty (count + 1) (slice_set rows count text)
next_row r tty count rows text less wide is before = record {
  long = length-set rows count text ∙ before.long;
  wide = λ row within. elim (cases_eq row count) [
    | inl same ↦ rw same (ap (λ (t : List ℕ). length t) (get_or-set_same rows count text [] (omega (arith, less, before.long))) ∙ wide)
    | inr apart ↦ ap (λ (t : List ℕ). length t) (get_or-set_other rows count row text [] apart) ∙ before.wide row (omega (arith, within, apart))
  ];
  shown = λ row within. elim (cases_eq row count) [
    | inl same ↦ rw same (is ∙ ap Some (sym (get_or-set_same rows count text [] (omega (arith, less, before.long)))))
    | inr apart ↦ before.shown row (omega (arith, within, apart)) ∙ ap Some (sym (get_or-set_other rows count row text [] apart))
  ];
}

-- the terminal that is put in a place is there, and the other one is as it was
same_tty : (test : Bool) (lent : LentState) (device : Device)
    → (if test then (if test then record lent { tty0 = device } else record lent { tty1 = device }).tty0 else (if test then record lent { tty0 = device } else record lent { tty1 = device }).tty1) ≡ device
same_tty true lent device = refl
same_tty false lent device = refl

pub put_there : (lent : LentState) (tty : ℕ) (device : Device) → lent_tty (with_tty lent tty device) tty ≡ device
put_there lent tty device = same_tty (tty == 0) lent device

pub other_there : (lent : LentState) (tty n : ℕ) (device : Device) → tty < 2 → n < 2 → n ≢ tty → lent_tty (with_tty lent tty device) n ≡ lent_tty lent n
other_there lent tty n device few low apart = grind (arith, nat_tests, common_steps)

pub own_kept : (test : Bool) (lent : LentState) (device : Device) → (if test then record lent { tty0 = device } else record lent { tty1 = device }).own ≡ lent.own
own_kept true lent device = refl
own_kept false lent device = refl

pub budget_kept : (test : Bool) (lent : LentState) (device : Device) → (if test then record lent { tty0 = device } else record lent { tty1 = device }).budget ≡ lent.budget
budget_kept true lent device = refl
budget_kept false lent device = refl

refusal_kept : (test : Bool) (lent : LentState) (device : Device) → (if test then record lent { tty0 = device } else record lent { tty1 = device }).refusal ≡ lent.refusal
refusal_kept true lent device = refl
refusal_kept false lent device = refl

pub kept_refusal : (lent : LentState) (tty : ℕ) (device : Device) → (with_tty lent tty device).refusal ≡ lent.refusal
kept_refusal lent tty device = refusal_kept (tty == 0) lent device

-- the one store is counted, or refused with nothing counted
stores_kept : (test : Bool) (lent : LentState) (device : Device) → (if test then record lent { tty0 = device } else record lent { tty1 = device }).stores ≡ lent.stores
stores_kept true lent device = refl
stores_kept false lent device = refl

pub one_counted : (old new : LentState) (tty : ℕ) (device : Device) → new ≡ with_tty (lent_counted old) tty device → new.stores ≤ old.stores + 1
one_counted old new tty device is =
    let same : new.stores ≡ risen old.stores = ap (λ (l : LentState). l.stores) is ∙ stores_kept (tty == 0) (lent_counted old) device in
    omega (arith, same)

pub none_counted : (old new : LentState) (one : Refusal) → new ≡ lent_refused old one → new.stores ≤ old.stores + 1
none_counted old new one is =
    let same : new.stores ≡ old.stores = ap (λ (l : LentState). l.stores) is in omega (arith, same)

pub refusal_stands : (old new : LentState) (one : Refusal) → old.refusal ≡ None → new ≡ lent_refused old one → new.refusal ≡ Some one
refusal_stands old new one none is =
    ap (λ (l : LentState). l.refusal) is ∙ ap (λ (o : Option Refusal). first_refusal o one) none

pub changes_display : (old new : LentState) (tty : ℕ) (device : Device) → tty < 2 → device.tape ≡ (lent_tty old tty).tape → device.room ≡ (lent_tty old tty).room
    → new ≡ with_tty (lent_counted old) tty device → ChangesDisplay tty old new
changes_display old new tty device few tape room is = rw is (record {
  own = own_kept (tty == 0) (lent_counted old) device;
  budget = budget_kept (tty == 0) (lent_counted old) device;
  tape = ap (λ (d : Device). d.tape) (put_there (lent_counted old) tty device) ∙ tape;
  room = ap (λ (d : Device). d.room) (put_there (lent_counted old) tty device) ∙ room;
  other = λ n low apart. other_there (lent_counted old) tty n device few low apart;
})

pub changes_nothing : (old new : LentState) (tty : ℕ) (one : Refusal) → new ≡ lent_refused old one → ChangesDisplay tty old new
changes_nothing old new tty one is = rw is (record { own = refl; budget = refl; tape = refl; room = refl; other = λ n low apart. refl })

pub no_change : (tty : ℕ) (lent : LentState) → ChangesDisplay tty lent lent
no_change tty lent = record { own = refl; budget = refl; tape = refl; room = refl; other = λ n low apart. refl }

pub changes_both : (tty : ℕ) (a b c : LentState) → ChangesDisplay tty a b → ChangesDisplay tty b c → ChangesDisplay tty a c
changes_both tty a b c first later = record {
  own = later.own ∙ first.own;
  budget = later.budget ∙ first.budget;
  tape = later.tape ∙ first.tape;
  room = later.room ∙ first.room;
  other = λ n low apart. later.other n low apart ∙ first.other n low apart;
}

-- so the words of the own half are as they were
pub same_words : (a b c : Own) (tty : ℕ) → own_words b ≡ own_words a → c.place ≡ b.place → ChangesDisplay tty b.lent.now c.lent.now → own_words c ≡ own_words a
same_words a b c tty same place only =
    ap (λ (p : OwnPlace). words_from p.first c.lent.now.own) place ∙ ap (λ (ws : List ℕ). words_from b.place.first ws) only.own ∙ same

pub none_shown : (r : Records) (tty : ℕ) (rows : List (List ℕ)) → length rows ≡ 24 → ShowsRows r tty 0 rows
none_shown r tty rows long = record { long = long; wide = λ row within. absurd (omega (arith, within)); shown = λ row within. absurd (omega (arith, within)) }

pub one_more : (map : MemoryMap) (words at_first : WordMap) (tty count : ℕ) (before after : List (List ℕ)) → words ≡ at_first
    → (ShowsRows (records_of map words) tty count before → ShowsRows (records_of map words) tty (count + 1) after)
    → ShowsRows (records_of map at_first) tty count before → ShowsRows (records_of map at_first) tty (count + 1) after
one_more map words at_first tty count before after same more is =
    subst (λ (ws : WordMap). ShowsRows (records_of map ws) tty count before → ShowsRows (records_of map ws) tty (count + 1) after) same more is

-- with the cursor set the records' screen is seen
shows_screen : (r : Records) (tty : ℕ) (device : Device) (terminal : TermRec) → r.terms tty ≡ Some terminal → terminal.row < 24 → terminal.col < 80
    → ShowsRows r tty 24 device.display.rows → ShowsScreen r tty (with_cursor device terminal.row terminal.col).display
shows_screen r tty device terminal is row col rows = record {
  valid = record {
    long = rows.long;
    wide = All-from_get_or (λ (line : List ℕ). length line ≡ 80) device.display.rows [] (λ k within. rows.wide k (omega (arith, within, rows.long)));
    row = row;
    col = col;
  };
  row = ap cursor_row is;
  col = ap cursor_col is;
  rows = rows.shown;
}

pub cursor_shows : (r : Records) (tty : ℕ) (old new : LentState) (terminal : TermRec) → r.terms tty ≡ Some terminal → terminal.row < 24 → terminal.col < 80
    → new ≡ lent_cursor_at old tty terminal.row terminal.col
    → ShowsRows r tty 24 (lent_tty old tty).display.rows → ShowsScreen r tty (lent_tty new tty).display
cursor_shows r tty old new terminal there row col is rows =
    let put : lent_tty new tty ≡ with_cursor (lent_tty old tty) terminal.row terminal.col =
    ap (λ (l : LentState). lent_tty l tty) is ∙ put_there (lent_counted old) tty (with_cursor (lent_tty old tty) terminal.row terminal.col) in
    subst (λ (d : Device). ShowsScreen r tty d.display) (sym put) (shows_screen r tty (lent_tty old tty) terminal there row col rows)

pub first_display : (a b : LentState) → ChangesDisplay 0 a b → ChangesDisplays a b
first_display a b first = record {
  own = first.own;
  budget = first.budget;
  tape0 = first.tape;
  room0 = first.room;
  tape1 = ap (λ (d : Device). d.tape) (first.other 1 (omega arith) (λ e. absurd (omega (arith, e))));
  room1 = ap (λ (d : Device). d.room) (first.other 1 (omega arith) (λ e. absurd (omega (arith, e))));
}

pub both_displays : (a b c : LentState) → ChangesDisplay 0 a b → ChangesDisplay 1 b c → ChangesDisplays a c
both_displays a b c first later = record {
  own = later.own ∙ first.own;
  budget = later.budget ∙ first.budget;
  tape0 = ap (λ (d : Device). d.tape) (later.other 0 (omega arith) (λ e. absurd (omega (arith, e)))) ∙ first.tape;
  room0 = ap (λ (d : Device). d.room) (later.other 0 (omega arith) (λ e. absurd (omega (arith, e)))) ∙ first.room;
  tape1 = later.tape ∙ ap (λ (d : Device). d.tape) (first.other 1 (omega arith) (λ e. absurd (omega (arith, e))));
  room1 = later.room ∙ ap (λ (d : Device). d.room) (first.other 1 (omega arith) (λ e. absurd (omega (arith, e))));
}

-- what is seen of terminal 0 is as it was
pub stays_seen : (b c : LentState) → ChangesDisplay 1 b c → c.tty0.display ≡ b.tty0.display
stays_seen b c later = ap (λ (d : Device). d.display) (later.other 0 (omega arith) (λ e. absurd (omega (arith, e))))

-- and terminal 1 has the rows that it had
pub stays_long : (a b : LentState) → ChangesDisplay 0 a b → length a.tty1.display.rows ≡ 24 → length b.tty1.display.rows ≡ 24
stays_long a b first long = ap (λ (d : Device). length d.display.rows) (first.other 1 (omega arith) (λ e. absurd (omega (arith, e)))) ∙ long
