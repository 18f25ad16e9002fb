-- A byte in flight that is put.
use Rattle.std.proofs.Common.{◌≡◌, ℕ, ◌+◌, ◌-◌, ◌<◌, ◌==◌, nat_le, ◌&&◌, not, Bool, true, false, if◌then◌else◌, List, [], ◌∷◌, ◌++◌, length, drop, slice_set, slice_index_or, Option, Some, None, is_some, refl, sym, subst, ap, ◌∙◌, inl, inr, arith, length-set}
use Rattle.std.proofs.lemmas.Bool.{cases_Bool}
use Rattle.std.proofs.lemmas.Bool.Decides.{nat_tests}
use Rattle.std.proofs.lemmas.List.{length-append, length-drop}
use Rattle.ow_base.specs.Screen.{Screen, blank_row, drawn, on_next_line, printed}
use Rattle.record_layouts.specs.Decode.{terminal_by}
use Rattle.record_layouts.specs.Held.{Records}
use Rattle.record_layouts.specs.declared.term.TermRec.{TermRec}
use Rattle.dead_reader.specs.Terminals.{IsInFlight, TerminalDecodes, lacks_row, terminal_decodes}
use Rattle.dead_reader.proofs.LostRows.{decodes_is}
use Rattle.ow_plant.specs.Lent.{LentState, lent_counted, lent_put, lent_refused, lent_tty}
use Rattle.ow_plant.specs.State.{Device, put_on}
use Rattle.ow_plant.specs.declared.refusal.Refusal.{Refusal}
use Rattle.resurrector.specs.Flights.{HasFlightRoom, IsTapeLeft, LeavesFlight, LeavesFlights, tape_put}
use Rattle.resurrector.proofs.Painted.{budget_kept, other_there, own_kept, put_there}

-- a screen keeps its rows when a byte is drawn on it
rows_up : (rows : List (List ℕ)) → length rows ≡ 24 → length (drop 1 rows ++ blank_row ∷ []) ≡ 24
rows_up rows long =
    let joined : length (drop 1 rows ++ blank_row ∷ []) ≡ length (drop 1 rows) + 1 = length-append (drop 1 rows) (blank_row ∷ []) in
    let fewer : length (drop 1 rows) ≡ 23 = length-drop 1 rows ∙ rw long refl in
    joined ∙ rw fewer refl

next_line_long : (s : Screen) → length s.rows ≡ 24 → length (on_next_line s).rows ≡ 24
unfolding on_next_line
next_line_long s long = elim (cases_Bool (s.row == 23)) [
  | inl last ↦ rw last (rows_up s.rows long)
  | inr before ↦ rw before long
]

printed_long : (s : Screen) (byte : ℕ) → length s.rows ≡ 24 → length (printed s byte).rows ≡ 24
unfolding printed
printed_long s byte long =
    let rows = slice_set s.rows s.row (slice_set (slice_index_or s.rows s.row []) s.col byte) in
    let set : length rows ≡ 24 = length-set s.rows s.row (slice_set (slice_index_or s.rows s.row []) s.col byte) ∙ long in
    elim (cases_Bool (s.col == 79)) [
      | inl last ↦ rw last (next_line_long (record { rows = rows; row = s.row; col = 79 }) set)
      | inr before ↦ rw before set
    ]

drawn_by : (draws line first left : Bool) (s : Screen) (byte : ℕ) → length s.rows ≡ 24
    → length (if draws then printed s byte else if line then on_next_line s
    else if first then record { rows = s.rows; row = s.row; col = 0 } else if left then record { rows = s.rows; row = s.row; col = s.col - 1 } else s).rows ≡ 24
drawn_by true line first left s byte long = printed_long s byte long
drawn_by false true first left s byte long = next_line_long s long
drawn_by false false true left s byte long = long
drawn_by false false false true s byte long = long
drawn_by false false false false s byte long = long

pub drawn_long : (s : Screen) (byte : ℕ) → length s.rows ≡ 24 → length (drawn s byte).rows ≡ 24
unfolding drawn
drawn_long s byte long = drawn_by (nat_le 32 byte && nat_le byte 126) (byte == 10) (byte == 13) (byte == 8) s byte long

-- the test for a terminal that decodes
pub test_holds : (r : Records) (tty : ℕ) → TerminalDecodes r tty → terminal_decodes r tty ≡ true
unfolding terminal_decodes
test_holds r tty is = let rows = (decodes_is r tty (lacks_row r tty) is.terminal refl).1 is in rw (is.terminal, rows) refl

both_hold : (one other : Bool) → (one && other) ≡ true → (one ≡ true) × (other ≡ true)
both_hold true other is = (refl, is)
both_hold false other is = absurd (cc is)

test_tells : (r : Records) (tty : ℕ) → terminal_decodes r tty ≡ true → TerminalDecodes r tty
unfolding terminal_decodes
test_tells r tty is =
    let (there, rows) = both_hold (is_some (r.terms tty)) (not (lacks_row r tty)) is in
    (decodes_is r tty (lacks_row r tty) there refl).0 rows

-- the tape with the byte in flight
pub put_tape : (r : Records) (tty byte : ℕ) (tape : List ℕ) → IsInFlight r tty (length tape) byte → tape_put r tty tape ≡ tape ++ byte ∷ []
unfolding tape_put
put_tape r tty byte tape flight =
    let counted : (flight.terminal.written == length tape + 1) ≡ true = grind (arith, nat_tests, flight.counted) in
    rw (test_holds r tty flight.decodes, flight.there, counted, flight.last) refl

none_by : (r : Records) (tty : ℕ) (tape : List ℕ) (terminal : Option TermRec) → r.terms tty ≡ terminal → TerminalDecodes r tty
    → ((byte : ℕ) → IsInFlight r tty (length tape) byte → ⊥) → (terminal_by tape terminal).tape ≡ tape
none_by r tty tape None there decodes none = refl
none_by r tty tape (Some terminal) there decodes none = elim (cases_Bool (terminal.written == length tape + 1)) [
  | inl one ↦ absurd (none terminal.last (record { decodes = decodes; terminal = terminal; there = there; counted = grind (arith, nat_tests, one); last = refl }))
  | inr other ↦ rw other refl
]

-- and where there is none it is as it was
pub same_tape : (r : Records) (tty : ℕ) (tape : List ℕ) → ((byte : ℕ) → IsInFlight r tty (length tape) byte → ⊥) → tape_put r tty tape ≡ tape
unfolding tape_put
same_tape r tty tape none = elim (cases_Bool (terminal_decodes r tty)) [
  | inl decodes ↦ rw decodes (none_by r tty tape (r.terms tty) refl (test_tells r tty decodes) none)
  | inr lost ↦ rw lost refl
]

-- one terminal, whose device has so many bytes
module _ (r : Records) (tty count : ℕ) (old new : LentState) (has : count ≡ length (lent_tty old tty).tape) where
  pub tape_of_put : (byte : ℕ) → IsInFlight r tty count byte → new ≡ lent_put old tty byte → (lent_tty new tty).tape ≡ tape_put r tty (lent_tty old tty).tape
  tape_of_put byte flight is =
      let flies : IsInFlight r tty (length (lent_tty old tty).tape) byte = subst (λ (n : ℕ). IsInFlight r tty n byte) has flight in
      ap (λ (l : LentState). (lent_tty l tty).tape) is
      ∙ ap (λ (d : Device). d.tape) (put_there (lent_counted old) tty (put_on (lent_tty old tty) byte))
      ∙ sym (put_tape r tty byte (lent_tty old tty).tape flies)

  pub tape_of_none : ((byte : ℕ) → IsInFlight r tty count byte → ⊥) → (lent_tty old tty).tape ≡ tape_put r tty (lent_tty old tty).tape
  tape_of_none none =
      sym (same_tape r tty (lent_tty old tty).tape (λ byte flight. none byte (subst (λ (n : ℕ). IsInFlight r tty n byte) (sym has) flight)))

  pub leaves_put : (byte : ℕ) → tty < 2 → IsInFlight r tty count byte → new ≡ lent_put old tty byte → LeavesFlight r tty old new
  leaves_put byte low flight is =
      let device = put_on (lent_tty old tty) byte in
      let there : lent_tty new tty ≡ device = ap (λ (l : LentState). lent_tty l tty) is ∙ put_there (lent_counted old) tty device in
      record {
        own = ap (λ (l : LentState). l.own) is ∙ own_kept (tty == 0) (lent_counted old) device;
        budget = ap (λ (l : LentState). l.budget) is ∙ budget_kept (tty == 0) (lent_counted old) device;
        tape = inr (tape_of_put byte flight is);
        room = ap (λ (d : Device). d.room) there;
        long = λ long. ap (λ (d : Device). length d.display.rows) there ∙ drawn_long (lent_tty old tty).display byte long;
        other = λ n few apart. ap (λ (l : LentState). lent_tty l n) is ∙ other_there (lent_counted old) tty n device low few apart;
      }

pub leaves_same : (r : Records) (tty : ℕ) (lent : LentState) → LeavesFlight r tty lent lent
leaves_same r tty lent = record { own = refl; budget = refl; tape = inl refl; room = refl; long = λ long. long; other = λ n few apart. refl }

pub leaves_refused : (r : Records) (tty : ℕ) (old new : LentState) (one : Refusal) → new ≡ lent_refused old one → LeavesFlight r tty old new
leaves_refused r tty old new one is = rw is (record { own = refl; budget = refl; tape = inl refl; room = refl; long = λ long. long; other = λ n few apart. refl })

-- the terminals one after the other: after the first one, the other is as it was
module _ (r : Records) (a b : LentState) (first : LeavesFlight r 0 a b) where
  other_same : b.tty1 ≡ a.tty1
  other_same = first.other 1 (omega arith) (λ e. absurd (omega (arith, e)))

  pub first_flight : LeavesFlights r a b
  first_flight = record {
    own = first.own;
    budget = first.budget;
    tape0 = first.tape;
    room0 = first.room;
    long0 = first.long;
    tape1 = inl (ap (λ (d : Device). d.tape) other_same);
    room1 = ap (λ (d : Device). d.room) other_same;
    long1 = λ long. ap (λ (d : Device). length d.display.rows) other_same ∙ long;
  }

  pub count_stays : (count : ℕ) → count ≡ length a.tty1.tape → count ≡ length b.tty1.tape
  count_stays count is = is ∙ sym (ap (λ (d : Device). length d.tape) other_same)

  pub room_stays : HasFlightRoom r 1 a.tty1 → HasFlightRoom r 1 b.tty1
  room_stays room = subst (λ (d : Device). HasFlightRoom r 1 d) (sym other_same) room

  module _ (c : LentState) (later : LeavesFlight r 1 b c) where
    first_same : c.tty0 ≡ b.tty0
    first_same = later.other 0 (omega arith) (λ e. absurd (omega (arith, e)))

    pub both_flights : LeavesFlights r a c
    both_flights = record {
      own = later.own ∙ first.own;
      budget = later.budget ∙ first.budget;
      tape0 = subst (λ (d : Device). IsTapeLeft r 0 a.tty0.tape d.tape) (sym first_same) first.tape;
      room0 = ap (λ (d : Device). d.room) first_same ∙ first.room;
      long0 = λ long. ap (λ (d : Device). length d.display.rows) first_same ∙ first.long long;
      tape1 = subst (λ (d : Device). IsTapeLeft r 1 d.tape c.tty1.tape) other_same later.tape;
      room1 = later.room ∙ ap (λ (d : Device). d.room) other_same;
      long1 = λ long. later.long (ap (λ (d : Device). length d.display.rows) other_same ∙ long);
    }

    pub tape_first : b.tty0.tape ≡ tape_put r 0 a.tty0.tape → c.tty0.tape ≡ tape_put r 0 a.tty0.tape
    tape_first is = ap (λ (d : Device). d.tape) first_same ∙ is

    pub tape_later : c.tty1.tape ≡ tape_put r 1 b.tty1.tape → c.tty1.tape ≡ tape_put r 1 a.tty1.tape
    tape_later is = is ∙ ap (λ (d : Device). tape_put r 1 d.tape) other_same
