-- The terminals of a kernel that was built after a panic which damaged nothing: each is of its tape, with the byte in flight.
use Rattle.std.proofs.Common.{◌≡◌, ℕ, ◌*◌, ◌/◌, ◌<◌, ◌≤◌, List, length, Option, Some, None, IfSome, inl, inr, refl, sym, ap, subst, ◌∙◌, arith}
use Rattle.std.proofs.lemmas.Bool.{cases_lt, le-ltb}
use Rattle.ow_base.specs.Images.{Image}
use Rattle.ow_base.specs.Sv32.{WordMap}
use Rattle.record_layouts.specs.declared.places.RecordId.TheVariants as id
use Rattle.record_layouts.specs.declared.term.TermRec.{TermRec}
use Rattle.record_layouts.specs.Decode.{tape_by, terminal_by}
use Rattle.record_layouts.specs.Held.{Records}
use Rattle.record_layouts.specs.Images.{records_of_image}
use Rattle.record_layouts.specs.Left.{HandedOver}
use Rattle.record_layouts.specs.Reading.{records_in, records_of}
use Rattle.record_layouts.specs.SoundImages.{AreOfTapes, IsSoundAtPanic}
use Rattle.record_layouts.specs.Terminals.{IsOfTape, cursor_col, cursor_row, display_row, row_number, text_of, text_under}
use Rattle.resurrector.specs.Rebuilt.{IsRevived, tapes_put}
use Rattle.resurrector.specs.Revived.{revived_row}
use Rattle.resurrector.proofs.RebuiltRecords.{terminal_same}
use Rattle.resurrector.proofs.Undamaged.{is_there, terminals_there}

module _ (i : Image) (most broken : ℕ) (sound : IsSoundAtPanic i most broken) (h : HandedOver) (counts : List ℕ)
    (next : Records) (next_words : WordMap) (is : IsRevived (records_of_image i) (Some h) counts i.words next next_words) where
  abbrev r : Records
  r = records_of_image i

  terms : (tty : ℕ) → next.terms tty ≡ r.terms tty
  terms tty = terminal_same i most broken sound h counts next next_words is tty

  row_same : (place : ℕ) → next.rows place ≡ r.rows place
  unfolding revived_row records_of records_in
  row_same place = elim (cases_lt place 48) [
    | inl low ↦
        let (row, there) = is_there (r.rows place) (sound.complete (id.Row place) low) in
        is.records (id.Row place) low ∙ rw (terminals_there i most broken sound h (place / 24) (omega (arith, low))) (rw there refl)
    | inr past ↦ is.others (id.Row place) (le-ltb place 48 past) ∙ rw (le-ltb place 48 past) refl
  ]

  text_same : (tty k : ℕ) (o : Option TermRec) → text_under o next.rows tty k ≡ text_under o r.rows tty k
  text_same tty k (Some terminal) = ap text_of (row_same (row_number tty terminal.top k))
  text_same tty k None = refl

  display_same : (tty k : ℕ) → display_row next tty k ≡ display_row r tty k
  display_same tty k = ap (λ (o : Option TermRec). text_under o next.rows tty k) (terms tty) ∙ text_same tty k (r.terms tty)

  still_of_tape : (tty : ℕ) (tape : List ℕ) (terminal : TermRec) → IsOfTape r tty tape terminal → IsOfTape next tty tape terminal
  still_of_tape tty tape terminal its = record {
    counted = its.counted;
    base = its.base;
    rows = record {
      valid = its.rows.valid;
      row = ap cursor_row (terms tty) ∙ its.rows.row;
      col = ap cursor_col (terms tty) ∙ its.rows.col;
      rows = λ k less. display_same tty k ∙ its.rows.rows k less;
    };
  }

  module _ (tty : ℕ) (low : tty < 2) (terminal : TermRec) (there : r.terms tty ≡ Some terminal) where
    put : tapes_put r i.tapes tty ≡ tape_by (i.tapes tty) terminal
    put = ap (λ (o : Option TermRec). (terminal_by (i.tapes tty) o).tape) there

    now_there : Some terminal ≡ next.terms tty
    now_there = sym (terms tty ∙ there)

    of_tape : IfSome (next.terms tty) (λ t. IsOfTape next tty (tapes_put r i.tapes tty) t)
    of_tape =
        let was : IsOfTape r tty (tape_by (i.tapes tty) terminal) terminal =
        subst (λ (o : Option TermRec). IfSome o (λ t. IsOfTape r tty (tape_by (i.tapes tty) t) t)) there (sound.terminals.records tty low) in
        let now : IsOfTape next tty (tapes_put r i.tapes tty) terminal =
        subst (λ (tape : List ℕ). IsOfTape next tty tape terminal) (sym put) (still_of_tape tty (tape_by (i.tapes tty) terminal) terminal was) in
        subst (λ (o : Option TermRec). IfSome o (λ t. IsOfTape next tty (tapes_put r i.tapes tty) t)) now_there now

    few : IfSome (next.terms tty) (λ t. length (tapes_put r i.tapes tty) ≤ 16 * most)
    few =
        let was : length (tape_by (i.tapes tty) terminal) ≤ 16 * most =
        subst (λ (o : Option TermRec). IfSome o (λ t. length (tape_by (i.tapes tty) t) ≤ 16 * most)) there (sound.terminals.few tty low) in
        let now : length (tapes_put r i.tapes tty) ≤ 16 * most =
        subst (λ (tape : List ℕ). length tape ≤ 16 * most) (sym put) was in
        subst (λ (o : Option TermRec). IfSome o (λ t. length (tapes_put r i.tapes tty) ≤ 16 * most)) now_there now

  pub all_of_tapes : AreOfTapes next (λ tty terminal. tapes_put r i.tapes tty) most
  all_of_tapes = record {
    records = λ tty low. let (terminal, there) = is_there (r.terms tty) (sound.complete (id.Term tty) low) in of_tape tty low terminal there;
    few = λ tty low. let (terminal, there) = is_there (r.terms tty) (sound.complete (id.Term tty) low) in few tty low terminal there;
  }
