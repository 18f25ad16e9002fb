-- The screens of a kernel that was built, once its half is the live one.
use Rattle.std.proofs.Common.{◌≡◌, ℕ, ◌<◌, List, Option, Some, None, refl, sym, ap, ◌∙◌, arith}
use Rattle.ow_base.specs.Screen.{Screen}
use Rattle.ow_base.specs.Sv32.{WordMap}
use Rattle.record_layouts.specs.declared.places.RecordId.TheVariants as id
use Rattle.record_layouts.specs.declared.term.TermRec.{TermRec}
use Rattle.record_layouts.specs.Held.{Records}
use Rattle.record_layouts.specs.Left.{HandedOver}
use Rattle.record_layouts.specs.Terminals.{ShowsScreen, cursor_col, cursor_row, display_row, row_number, text_of, text_under}
use Rattle.resurrector.specs.Rebuilt.{IsRevived}

-- both are read of the same plan
module _ (r : Records) (handed : Option HandedOver) (counts : List ℕ) (words : WordMap) (one other : Records) (one_words other_words : WordMap)
    (is : IsRevived r handed counts words one one_words) (as_well : IsRevived r handed counts words other other_words) where
  term_same : (tty : ℕ) → tty < 2 → other.terms tty ≡ one.terms tty
  term_same tty low = as_well.records (id.Term tty) low ∙ sym (is.records (id.Term tty) low)

  row_same : (place : ℕ) → place < 48 → other.rows place ≡ one.rows place
  row_same place low = as_well.records (id.Row place) low ∙ sym (is.records (id.Row place) low)

  text_same : (tty k : ℕ) → tty < 2 → (o : Option TermRec) → text_under o other.rows tty k ≡ text_under o one.rows tty k
  text_same tty k low (Some terminal) = ap text_of (row_same (row_number tty terminal.top k) (omega (arith, low)))
  text_same tty k low None = refl

  display_same : (tty k : ℕ) → tty < 2 → display_row other tty k ≡ display_row one tty k
  display_same tty k low = ap (λ (o : Option TermRec). text_under o other.rows tty k) (term_same tty low) ∙ text_same tty k low (one.terms tty)

  pub shown_too : (tty : ℕ) (screen : Screen) → tty < 2 → ShowsScreen one tty screen → ShowsScreen other tty screen
  shown_too tty screen low shows = record {
    valid = shows.valid;
    row = ap cursor_row (term_same tty low) ∙ shows.row;
    col = ap cursor_col (term_same tty low) ∙ shows.col;
    rows = λ k less. display_same tty k low ∙ shows.rows k less;
  }
