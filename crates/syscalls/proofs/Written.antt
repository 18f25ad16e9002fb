-- What the terminals then are.
use Rattle.std.proofs.Common.{◌≡◌, ℕ, List, Option, Some, None, inl, inr, sym, ap, subst, ◌∙◌}
use Rattle.ow_base.specs.Words.{updated}
use Rattle.record_layouts.specs.declared.term.TermRec.{TermRec}
use Rattle.record_layouts.specs.Unix.Calls.{with_tape}
use Rattle.record_layouts.specs.Held.{Records}
use Rattle.record_layouts.specs.Decode.{terminal_by}
use Rattle.process_table.proofs.Kept.{set_here, set_other, same_or_not}
use Rattle.syscalls.specs.Done.{AreCounted, AreCountedBy, AreWritten}

terminal_then : (bytes tape then_tape : List ℕ) (before after : TermRec) → AreCounted bytes tape then_tape before after
    → terminal_by then_tape (Some after) ≡ with_tape (terminal_by tape (Some before)) bytes
terminal_then bytes tape then_tape before after are = λ i. record { tape = are.decoded i; base = are.base i; consumed = are.consumed i }

terminal_counted : (bytes tape then_tape : List ℕ) (before after : Option TermRec) → AreCountedBy bytes tape then_tape before after
    → terminal_by then_tape after ≡ with_tape (terminal_by tape before) bytes
terminal_counted bytes tape then_tape (Some before) (Some after) are = terminal_then bytes tape then_tape before after are
terminal_counted bytes tape then_tape (Some before) None are = absurd are
terminal_counted bytes tape then_tape None after are = absurd are

terminal_at : (r : Records) (tapes : ℕ → List ℕ) (tty : ℕ) (bytes : List ℕ) (written : Records) (written_tapes : ℕ → List ℕ) → AreWritten r tapes tty bytes written written_tapes
    → (t : ℕ) → terminal_by (written_tapes t) (written.terms t)
    ≡ updated (λ k. terminal_by (tapes k) (r.terms k)) tty (with_tape (terminal_by (tapes tty) (r.terms tty)) bytes) t
terminal_at r tapes tty bytes written written_tapes are t = elim (same_or_not t tty) [
  | inl equal ↦ subst (λ (k : ℕ). terminal_by (written_tapes k) (written.terms k) ≡ updated (λ n. terminal_by (tapes n) (r.terms n)) tty (with_tape (terminal_by (tapes tty) (r.terms tty)) bytes) k) (sym equal)
      (terminal_counted bytes (tapes tty) (written_tapes tty) (r.terms tty) (written.terms tty) are.counted
      ∙ sym (set_here (λ n. terminal_by (tapes n) (r.terms n)) tty (with_tape (terminal_by (tapes tty) (r.terms tty)) bytes)))
  | inr apart ↦
      ap (λ (tape : List ℕ). terminal_by tape (written.terms t)) (are.other_tapes t apart)
      ∙ (ap (λ (held : Option TermRec). terminal_by (tapes t) held) (are.terms t apart)
      ∙ sym (set_other (λ n. terminal_by (tapes n) (r.terms n)) tty (with_tape (terminal_by (tapes tty) (r.terms tty)) bytes) t apart))
]

pub terminals_then : (r : Records) (tapes : ℕ → List ℕ) (tty : ℕ) (bytes : List ℕ) (written : Records) (written_tapes : ℕ → List ℕ) → AreWritten r tapes tty bytes written written_tapes
    → (λ (t : ℕ). terminal_by (written_tapes t) (written.terms t))
    ≡ updated (λ k. terminal_by (tapes k) (r.terms k)) tty (with_tape (terminal_by (tapes tty) (r.terms tty)) bytes)
terminals_then r tapes tty bytes written written_tapes are = λ i t. terminal_at r tapes tty bytes written written_tapes are t i
