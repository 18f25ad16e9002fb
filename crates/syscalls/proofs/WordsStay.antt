-- A further piece of a write changes no word of a page.
use Rattle.std.proofs.Common.{◌≡◌, ◌==◌, if◌then◌else◌, ℕ, ◌+◌, Bool, true, false, List, Option, Some, None, arith}
use Rattle.std.proofs.lemmas.Bool.Decides.{nat_tests}
use Rattle.ow_base.specs.Sv32.{WordMap}
use Rattle.ow_base.specs.Pages.{Pages, is_readable}
use Rattle.record_layouts.specs.declared.head.HeadRec.{HeadRec}
use Rattle.record_layouts.specs.declared.proc.ProcRec.{ProcRec}
use Rattle.record_layouts.specs.declared.desc.DescRec.{DescRec}
use Rattle.record_layouts.specs.Unix.Calls.{tty_piece}
use Rattle.record_layouts.specs.Held.{Records}
use Rattle.record_layouts.specs.Pages.{pages_of}
use Rattle.syscalls.specs.declared.caller.Caller.{Caller}
use Rattle.syscalls.specs.Planned.{Planned, PlanWrite, argument_of, caller_with, items_of, named, planned_answer, planned_further, planned_nothing, planned_of_call, planned_piece, planned_tty, stopped_answer, written_process}
use Rattle.syscalls.specs.Done.{IsDone}

module _ (r : Records) (words : WordMap) (tapes : ℕ → List ℕ) (slot : ℕ) (process : ProcRec) (done : Records) (done_words : WordMap) (done_tapes : ℕ → List ℕ) where
  -- where this is done, the words are what they were
  abbrev StayAt : Planned → Type 0
  StayAt plan = IsDone r words tapes slot process plan done done_words done_tapes → done_words ≡ words

  either_stays : (test : Bool) (one other : Planned) → StayAt one → StayAt other → StayAt (if test then one else other)
  either_stays true one other here there = here
  either_stays false one other here there = there

  tty_stays : (pages : Pages) (c : Caller) (tty done_bytes : ℕ) → StayAt (planned_tty pages c tty done_bytes)
  unfolding planned_tty
  tty_stays pages c tty done_bytes =
      let from = argument_of c.process 1 + done_bytes in
      let count = argument_of c.process 2 in
      let piece = tty_piece count done_bytes in
      either_stays (is_readable pages from piece) (PlanWrite tty from piece (items_of c (written_process c.process count (done_bytes + piece))))
      (planned_answer c (stopped_answer done_bytes 14)) (λ served. served.3) (λ served. served.1)

  further_stays : (pages : Pages) (c : Caller) (held : Option DescRec) → StayAt (planned_further pages c held)
  further_stays pages c (Some d) =
      either_stays (d.object == 1) (planned_nothing c) (planned_tty pages c d.index c.process.done) (λ served. served.1) (tty_stays pages c d.index c.process.done)
  further_stays pages c None = λ served. served.1

  write_stays : (pages : Pages) (c : Caller) → c.process.call ≡ 2 → StayAt (planned_of_call r pages c)
  write_stays pages c writes =
      let two : (c.process.call == 2) ≡ true = grind (arith, nat_tests, writes) in
      rw two (further_stays pages c (named r c.process.descs (argument_of c.process 0)))

pub words_stay : (r : Records) (words : WordMap) (tapes : ℕ → List ℕ) (slot trap : ℕ) (head : HeadRec) (process : ProcRec)
    (done : Records) (done_words : WordMap) (done_tapes : ℕ → List ℕ) → process.call ≡ 2
    → IsDone r words tapes slot process (planned_piece r words slot trap head process) done done_words done_tapes → done_words ≡ words
unfolding planned_piece
words_stay r words tapes slot trap head process done done_words done_tapes writes served =
    write_stays r words tapes slot process done done_words done_tapes (pages_of r words slot process) (caller_with slot trap head process) writes served
