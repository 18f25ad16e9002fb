-- What a broken piece of a write leaves on its terminal.
use Rattle.std.proofs.Common.{◌≡◌, ◌∙◌, ◌+◌, ◌==◌, ℕ, nat_eq, true, List, ◌++◌, take, Some, inl, inr, refl, ap, arith}
use Rattle.std.proofs.lemmas.Bool.{cases_Bool}
use Rattle.std.proofs.lemmas.Grind.{common_steps}
use Rattle.std.proofs.Math.Seq.{take-append-add}
use Rattle.ow_base.specs.Pages.{is_readable, bytes_at}
use Rattle.record_layouts.specs.Unix.State.{Unix, Process, In, Description, OnTty}
use Rattle.record_layouts.specs.Unix.Calls.{argument, trapped, answered, stays_in, description_of, tty_piece, tty_write, written_to, written_on, continued, piece_of}
use Rattle.record_layouts.specs.Unix.Traps.{after_trap}
use Rattle.record_layouts.specs.Unix.Broken.{partly_put}
use Rattle.record_layouts.specs.declared.traps.Trap.TheVariants as trap

same_number : (n : ℕ) → nat_eq n n ≡ true
same_number n = grind (arith, common_steps)

written_tape : (u : Unix) (tty : ℕ) (bytes : List ℕ) (pid : ℕ) (p : Process) (count done : ℕ)
    → ((written_to (written_on u tty bytes) pid p count done).terminals tty).tape ≡ (u.terminals tty).tape ++ bytes
unfolding answered stays_in
written_tape u tty bytes pid p count done = elim (cases_Bool (done == count)) [
  | inl all ↦ rw (all, same_number tty) refl
  | inr some ↦ rw (some, same_number tty) refl
]

-- the tape after a piece, which is readable, of the write of a process on a terminal
piece_tape : (u : Unix) (pid : ℕ) (p : Process) (tty done : ℕ) → is_readable p.pages (argument p 1 + done) (tty_piece (argument p 2) done) ≡ true
    → ((tty_write u pid p tty done).terminals tty).tape ≡ (u.terminals tty).tape ++ bytes_at p.pages (argument p 1 + done) (tty_piece (argument p 2) done)
unfolding tty_write
piece_tape u pid p tty done able =
    rw able (written_tape u tty (bytes_at p.pages (argument p 1 + done) (tty_piece (argument p 2) done)) pid p (argument p 2) (done + tty_piece (argument p 2) done))

module _ (u : Unix) (pid : ℕ) (p : Process) (done tty : ℕ) (d : Description) where
  after_piece : u.processes pid ≡ Some p → p.call ≡ In 2 done → description_of u p (argument p 0) ≡ Some d → d.object ≡ OnTty tty
      → after_trap u (trap.Piece pid) ≡ tty_write (trapped u pid) pid p tty done
  unfolding after_trap piece_of continued trapped description_of
  after_piece live call there on = rw (live, call, there, on) refl

  pub partly_put_tape : (count : ℕ) → u.processes pid ≡ Some p → p.call ≡ In 2 done → description_of u p (argument p 0) ≡ Some d → d.object ≡ OnTty tty
      → is_readable p.pages (argument p 1 + done) (tty_piece (argument p 2) done) ≡ true
      → ((partly_put (trap.Piece pid) u tty count).terminals tty).tape
      ≡ (u.terminals tty).tape ++ take count (bytes_at p.pages (argument p 1 + done) (tty_piece (argument p 2) done))
  unfolding partly_put trapped
  partly_put_tape count live call there on able =
      let made = after_piece live call there on in
      let tape : ((after_trap u (trap.Piece pid)).terminals tty).tape ≡ (u.terminals tty).tape ++ bytes_at p.pages (argument p 1 + done) (tty_piece (argument p 2) done) =
      ap (λ (w : Unix). (w.terminals tty).tape) made ∙ piece_tape (trapped u pid) pid p tty done able in
      rw (same_number tty, tape) (take-append-add (u.terminals tty).tape (bytes_at p.pages (argument p 1 + done) (tty_piece (argument p 2) done)) count)
