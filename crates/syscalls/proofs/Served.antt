-- What a call makes of the records is what it makes of the state that they stand for.
use Rattle.std.proofs.Common.{◌≡◌, ◌==◌, ◌||◌, if◌then◌else◌, ℕ, ◌+◌, ◌%◌, ◌≤◌, Bool, true, false, nat_lt, List, Option, Some, None, inl, inr, refl, sym, ap, subst, ◌∙◌, arith}
use Rattle.std.proofs.lemmas.Bool.{cases_Bool}
use Rattle.ow_base.specs.Sv32.{WordMap}
use Rattle.ow_base.specs.Words.{minus, wrapped}
use Rattle.ow_base.specs.UserStep.{with_register}
use Rattle.ow_base.specs.Pages.{bytes_at, is_readable}
use Rattle.record_layouts.specs.declared.head.HeadRec.{HeadRec}
use Rattle.record_layouts.specs.declared.proc.ProcRec.{ProcRec}
use Rattle.record_layouts.specs.declared.desc.DescRec.{DescRec}
use Rattle.record_layouts.specs.Unix.State.{Unix, Process, Terminal}
use Rattle.record_layouts.specs.Unix.Calls.{answered, description_of, exit_entry, piece_on, sbrk_entry, stays_in, trapped, tty_piece, tty_write, with_process, write_on, write_through, written_on, written_to, yield_entry, wait_entry}
use Rattle.record_layouts.specs.Unix.Spaces.{with_zero_pages}
use Rattle.record_layouts.specs.Unix.Spaces as unix
use Rattle.record_layouts.specs.Held.{Records, with_items}
use Rattle.record_layouts.specs.Pages.{is_mapped, pages_of}
use Rattle.record_layouts.specs.Proc.{FitsProc}
use Rattle.record_layouts.specs.Decode.{Context, InKernel, process_of, processes_of, unix_of}
use Rattle.record_layouts.specs.Sound.{IsIn, AreSound}
use Rattle.frame_table.specs.Counts.{pages_of_all}
use Rattle.frame_table.specs.Free.{free_before}
use Rattle.frame_table.proofs.Counting.{fits_there}
use Rattle.address_space.specs.Spaces.{IsGrown, OnlyPrepares}
use Rattle.process_table.specs.Patches.{ended_items, saved_process}
use Rattle.process_table.proofs.Regions.{SameRegions, pages_same}
use Rattle.process_table.specs.Meaning.{IsOf}
use Rattle.process_table.proofs.EndedUnix.{ended_unix}
use Rattle.process_table.proofs.Endings.{ended_records}
use Rattle.process_table.proofs.Saving.{set_itself}
use Rattle.process_table.proofs.Seats.{pid_range}
use Rattle.syscalls.specs.Planned.{PlanGrow, PlanOnce, PlanWrite, answered_process, argument_of, break_of, caller_with, grown_process, is_written, items_of, named, pages_more, planned_answer, planned_further, planned_nothing, planned_on, planned_sbrk, planned_tty, planned_write_on, staying_process, stopped_answer, written_process, yielded_process, planned_wait}
use Rattle.syscalls.specs.Done.{AreCountedFrames, AreWritten, IsDone, held_as}
use Rattle.syscalls.proofs.Becoming.{IsAfter, OthersStay, bank_by, becoming, becomes, becomes_then, caller_decodes, prepared}
use Rattle.syscalls.proofs.Counted.{all_counted, break_is, heap_ends, room_same}
use Rattle.syscalls.proofs.Grown.{grown_has, grown_mapped, others_stay}
use Rattle.syscalls.proofs.WaitUnix.{served_wait}
use Rattle.syscalls.proofs.Written.{terminals_then}
use Rattle.syscalls.proofs.Described.{described, described_as, description_is}

module _ (r : Records) (head : HeadRec) (slot : ℕ) (process : ProcRec) (trap : ℕ) (words : WordMap) (tapes : ℕ → List ℕ) (context : Context) (steps traps : ℕ)
    (sound : AreSound r) (is_head : r.head ≡ Some head) (is : IsIn r slot process) (of : IsOf context process.pid) where
  -- the caller as its call finds it, and the state in which its trap begins
  abbrev saved : ProcRec
  saved = saved_process process (bank_by context process)

  abbrev caller : Process
  caller = record (process_of r words slot process) { bank = bank_by context process }

  abbrev state : Unix
  state = trapped (unix_of r words tapes context steps traps) process.pid

  -- the state that records and tapes stand for when the trap is done
  abbrev Ends : Records → WordMap → (ℕ → List ℕ) → Unix → Type 0
  Ends done done_words done_tapes u = unix_of done done_words done_tapes InKernel (steps + 1) (traps + 1) ≡ u

  ends_once : (after : ProcRec) → IsAfter process after → Ends (with_items r (items_of (caller_with slot trap head saved) after)) words tapes (with_process state process.pid (process_of r words slot after))
  unfolding unix_of trapped
  ends_once after next =
      let pid : Ends (with_items r (items_of (caller_with slot trap head saved) after)) words tapes (unix_of (becoming r head slot process.pid after r.terms r.rows trap) words tapes InKernel (steps + 1) (traps + 1)) =
      ap (λ (p : ℕ). unix_of (becoming r head slot p after r.terms r.rows trap) words tapes InKernel (steps + 1) (traps + 1)) next.pid in
      pid ∙ becomes r head slot process after r.terms r.rows trap words context sound is_head is of next tapes tapes steps traps

  ends_written : (after : ProcRec) (tty : ℕ) (bytes : List ℕ) (written : Records) (done_tapes : ℕ → List ℕ) → IsAfter process after → AreWritten r tapes tty bytes written done_tapes
      → Ends (with_items written (items_of (caller_with slot trap head saved) after)) words done_tapes (with_process (written_on state tty bytes) process.pid (process_of r words slot after))
  unfolding unix_of trapped
  ends_written after tty bytes written done_tapes next are =
      let items = items_of (caller_with slot trap head saved) after in
      let rest : Ends (with_items written items) words done_tapes (unix_of (with_items (record r { terms = written.terms; rows = written.rows }) items) words done_tapes InKernel (steps + 1) (traps + 1)) =
      ap (λ (x : Records). unix_of (with_items x items) words done_tapes InKernel (steps + 1) (traps + 1)) are.rest in
      let pid : unix_of (with_items (record r { terms = written.terms; rows = written.rows }) items) words done_tapes InKernel (steps + 1) (traps + 1)
      ≡ unix_of (becoming r head slot process.pid after written.terms written.rows trap) words done_tapes InKernel (steps + 1) (traps + 1) =
      ap (λ (p : ℕ). unix_of (becoming r head slot p after written.terms written.rows trap) words done_tapes InKernel (steps + 1) (traps + 1)) next.pid in
      rest ∙ (pid ∙ (becomes r head slot process after written.terms written.rows trap words context sound is_head is of next tapes done_tapes steps traps
      ∙ ap (λ (ts : ℕ → Terminal). record (with_process state process.pid (process_of r words slot after)) { terminals = ts })
      (terminals_then r tapes tty bytes written done_tapes are)))

  ends_grown : (bytes : ℕ) (owners : ℕ → ℕ) (tables : (slot table word : ℕ) → ℕ) (then_words : WordMap) → is_mapped (prepared r owners tables) slot (grown_process saved bytes) ≡ true
      → OthersStay r words slot (prepared r owners tables) then_words
      → Ends (with_items (prepared r owners tables) (items_of (caller_with slot trap head saved) (grown_process saved bytes))) then_words tapes
      (with_process state process.pid (process_of (prepared r owners tables) then_words slot (grown_process saved bytes)))
  unfolding unix_of trapped
  ends_grown bytes owners tables then_words mapped others =
      becomes_then r head slot process (grown_process saved bytes) r.terms r.rows trap words then_words context sound is_head is of
      (record { pid = refl; parent = refl; status = refl; descs = refl; live = refl }) owners tables mapped others tapes tapes steps traps

  -- what the process then decodes to
  outside : (after : ProcRec) → after.state ≡ 1 → after.code_pages ≡ process.code_pages → after.data_pages ≡ process.data_pages → after.brk ≡ process.brk → SameRegions after process
  outside after state code values brk = record { live = rw state refl; lives = is.live; code = code; values = values; brk = brk }

  inside : (after : ProcRec) → after.state ≡ 2 → after.code_pages ≡ process.code_pages → after.data_pages ≡ process.data_pages → after.brk ≡ process.brk → SameRegions after process
  inside after state code values brk = record { live = rw state refl; lives = is.live; code = code; values = values; brk = brk }

  answer_regions : (answer : ℕ) → SameRegions (answered_process saved answer) process
  answer_regions answer = outside (answered_process saved answer) refl refl refl refl

  answer_after : (answer : ℕ) → IsAfter process (answered_process saved answer)
  answer_after answer = record { pid = refl; parent = refl; status = refl; descs = refl; regions = answer_regions answer }

  answer_is : (u : Unix) (answer : ℕ) → with_process u process.pid (process_of r words slot (answered_process saved answer)) ≡ answered u process.pid caller answer
  unfolding answered process_of
  answer_is u answer = ap (with_process u process.pid) (λ i. record (process_of r words slot (answered_process saved answer)) { pages = pages_same r words slot (answered_process saved answer) process (answer_regions answer) i })

  yield_regions : SameRegions (yielded_process saved) process
  yield_regions = outside (yielded_process saved) refl refl refl refl

  yield_after : IsAfter process (yielded_process saved)
  yield_after = record { pid = refl; parent = refl; status = refl; descs = refl; regions = yield_regions }

  yield_is : (u : Unix) → with_process u process.pid (process_of r words slot (yielded_process saved)) ≡ yield_entry u process.pid caller
  unfolding yield_entry process_of
  yield_is u = ap (with_process u process.pid) (λ i. record (process_of r words slot (yielded_process saved)) { pages = pages_same r words slot (yielded_process saved) process yield_regions i })

  stay_regions : (done : ℕ) → SameRegions (staying_process saved done) process
  stay_regions done = inside (staying_process saved done) refl refl refl refl

  stay_after : (done : ℕ) → IsAfter process (staying_process saved done)
  stay_after done = record { pid = refl; parent = refl; status = refl; descs = refl; regions = stay_regions done }

  stay_is : (u : Unix) (done : ℕ) → with_process u process.pid (process_of r words slot (staying_process saved done)) ≡ stays_in u process.pid caller 2 done
  unfolding stays_in process_of
  stay_is u done = ap (with_process u process.pid) (λ i. record (process_of r words slot (staying_process saved done)) { pages = pages_same r words slot (staying_process saved done) process (stay_regions done) i })

  -- a call that is served at once
  served_once : (after : ProcRec) (done : Records) (done_words : WordMap) (done_tapes : ℕ → List ℕ) → IsAfter process after → IsDone r words tapes slot process (PlanOnce (items_of (caller_with slot trap head saved) after)) done done_words done_tapes
      → Ends done done_words done_tapes (with_process state process.pid (process_of r words slot after))
  served_once after done done_words done_tapes next served =
      let then_records = with_items r (items_of (caller_with slot trap head saved) after) in
      ap (λ (x : Records). unix_of x done_words done_tapes InKernel (steps + 1) (traps + 1)) served.0
      ∙ (ap (λ (ws : WordMap). unix_of then_records ws done_tapes InKernel (steps + 1) (traps + 1)) served.1
      ∙ (ap (λ (ts : ℕ → List ℕ). unix_of then_records words ts InKernel (steps + 1) (traps + 1)) served.2
      ∙ ends_once after next))

  pub served_answer : (answer : ℕ) (done : Records) (done_words : WordMap) (done_tapes : ℕ → List ℕ) → IsDone r words tapes slot process (planned_answer (caller_with slot trap head saved) answer) done done_words done_tapes
      → Ends done done_words done_tapes (answered state process.pid caller answer)
  served_answer answer done done_words done_tapes served = served_once (answered_process saved answer) done done_words done_tapes (answer_after answer) served ∙ answer_is state answer

  pub served_yield : (done : Records) (done_words : WordMap) (done_tapes : ℕ → List ℕ) → IsDone r words tapes slot process (PlanOnce (items_of (caller_with slot trap head saved) (yielded_process saved))) done done_words done_tapes
      → Ends done done_words done_tapes (yield_entry state process.pid caller)
  served_yield done done_words done_tapes served = served_once (yielded_process saved) done done_words done_tapes yield_after served ∙ yield_is state

  -- the caller is there
  caller_there : processes_of r words context process.pid ≡ Some caller
  caller_there = caller_decodes r words context slot process sound is of

  -- a process that is what it was
  same_regions : SameRegions saved process
  same_regions = record { live = is.live; lives = is.live; code = refl; values = refl; brk = refl }

  same_after : IsAfter process saved
  same_after = record { pid = refl; parent = refl; status = refl; descs = refl; regions = same_regions }

  same_is : process_of r words slot saved ≡ caller
  unfolding process_of
  same_is = λ i. record (process_of r words slot saved) { pages = pages_same r words slot saved process same_regions i }

  nothing_is : with_process state process.pid caller ≡ state
  unfolding unix_of trapped
  nothing_is = ap (λ (ps : ℕ → Option Process). record state { processes = ps }) (set_itself (processes_of r words context) process.pid caller caller_there)

  pub served_nothing : (done : Records) (done_words : WordMap) (done_tapes : ℕ → List ℕ) → IsDone r words tapes slot process (planned_nothing (caller_with slot trap head saved)) done done_words done_tapes
      → Ends done done_words done_tapes state
  served_nothing done done_words done_tapes served =
      served_once saved done done_words done_tapes same_after served ∙ (ap (with_process state process.pid) same_is ∙ nothing_is)

  -- a piece of a write: what is left of it is answered, or the process stays
  written_after : (count done : ℕ) → IsAfter process (written_process saved count done)
  written_after count done = elim (cases_Bool (done == count)) [
    | inl last ↦ rw last (answer_after count)
    | inr more ↦ rw more (stay_after done)
  ]

  written_is : (u : Unix) (count done : ℕ) → with_process u process.pid (process_of r words slot (written_process saved count done)) ≡ written_to u process.pid caller count done
  written_is u count done = elim (cases_Bool (done == count)) [
    | inl last ↦ rw last (answer_is u count)
    | inr more ↦ rw more (stay_is u done)
  ]

  served_piece : (tty from count len done : ℕ) (now : Records) (now_words : WordMap) (now_tapes : ℕ → List ℕ)
      → IsDone r words tapes slot process (PlanWrite tty from len (items_of (caller_with slot trap head saved) (written_process saved count done))) now now_words now_tapes
      → Ends now now_words now_tapes (written_to (written_on state tty (bytes_at (pages_of r words slot process) from len)) process.pid caller count done)
  served_piece tty from count len done now now_words now_tapes served =
      let bytes = bytes_at (pages_of r words slot process) from len in
      let after = written_process saved count done in
      ap (λ (x : Records). unix_of x now_words now_tapes InKernel (steps + 1) (traps + 1)) served.2
      ∙ (ap (λ (ws : WordMap). unix_of (with_items served.0 (items_of (caller_with slot trap head saved) after)) ws now_tapes InKernel (steps + 1) (traps + 1)) served.3
      ∙ (ends_written after tty bytes served.0 now_tapes (written_after count done) served.1
      ∙ written_is (written_on state tty bytes) count done))

  tty_by : (test : Bool) (tty from count len done answer : ℕ) (now : Records) (now_words : WordMap) (now_tapes : ℕ → List ℕ)
      → IsDone r words tapes slot process
      (if test then PlanWrite tty from len (items_of (caller_with slot trap head saved) (written_process saved count done)) else planned_answer (caller_with slot trap head saved) answer) now now_words now_tapes
      → Ends now now_words now_tapes
      (if test then written_to (written_on state tty (bytes_at (pages_of r words slot process) from len)) process.pid caller count done else answered state process.pid caller answer)
  tty_by true tty from count len done answer now now_words now_tapes served = served_piece tty from count len done now now_words now_tapes served
  tty_by false tty from count len done answer now now_words now_tapes served = served_answer answer now now_words now_tapes served

  pub served_tty : (tty done : ℕ) (now : Records) (now_words : WordMap) (now_tapes : ℕ → List ℕ)
      → IsDone r words tapes slot process (planned_tty (pages_of r words slot process) (caller_with slot trap head saved) tty done) now now_words now_tapes
      → Ends now now_words now_tapes (tty_write state process.pid caller tty done)
  unfolding planned_tty tty_write process_of
  served_tty tty done now now_words now_tapes served =
      let from = argument_of saved 1 + done in
      let count = argument_of saved 2 in
      let len = tty_piece count done in
      tty_by (is_readable (pages_of r words slot process) from len) tty from count len (done + len) (stopped_answer done 14) now now_words now_tapes served

  -- a piece of a write, by what it is on
  served_on : (d : DescRec) (done : ℕ) (now : Records) (now_words : WordMap) (now_tapes : ℕ → List ℕ)
      → IsDone r words tapes slot process (planned_on (pages_of r words slot process) (caller_with slot trap head saved) d done) now now_words now_tapes
      → Ends now now_words now_tapes (write_on state process.pid caller done (described_as d).object)
  served_on d done now now_words now_tapes served = elim (cases_Bool (d.object == 1)) [
    | inl file ↦ rw file (served_nothing now now_words now_tapes (rw file at served))
    | inr terminal ↦ rw terminal (served_tty d.index done now now_words now_tapes (rw terminal at served))
  ]

  pub served_held : (held : Option DescRec) (now : Records) (now_words : WordMap) (now_tapes : ℕ → List ℕ)
      → IsDone r words tapes slot process (planned_further (pages_of r words slot process) (caller_with slot trap head saved) held) now now_words now_tapes
      → Ends now now_words now_tapes (piece_on state process.pid caller process.done (described held))
  served_held None now now_words now_tapes served = served_nothing now now_words now_tapes served
  served_held (Some d) now now_words now_tapes served = served_on d process.done now now_words now_tapes served

  -- write
  pub write_by : (held : Option DescRec) (now : Records) (now_words : WordMap) (now_tapes : ℕ → List ℕ)
      → IsDone r words tapes slot process (planned_write_on (pages_of r words slot process) (caller_with slot trap head saved) held) now now_words now_tapes
      → Ends now now_words now_tapes (write_through state process.pid caller (described held))
  unfolding planned_write_on
  write_by None now now_words now_tapes served = served_answer (minus 9) now now_words now_tapes served
  write_by (Some d) now now_words now_tapes served = elim (cases_Bool (is_written d)) [
    | inl writes ↦ elim (cases_Bool (nat_lt 0x7fffffff (argument_of saved 2))) [
      | inl many ↦ rw (writes, many) (served_answer (minus 22) now now_words now_tapes (rw (writes, many) at served))
      | inr few ↦ elim (cases_Bool (argument_of saved 2 == 0)) [
        | inl none ↦ rw (writes, few, none) (served_answer 0 now now_words now_tapes (rw (writes, few, none) at served))
        | inr some ↦ rw (writes, few, some) (served_on d 0 now now_words now_tapes (rw (writes, few, some) at served))
      ]
    ]
    | inr reads ↦ rw reads (served_answer (minus 9) now now_words now_tapes (rw reads at served))
  ]

  -- what a descriptor of the caller names
  pub names : (fd : ℕ) → description_of state caller fd ≡ described (named r process.descs fd)
  unfolding description_of trapped unix_of process_of
  names fd =
      let range = pid_range r slot process sound.values is in
      description_is r (processes_of r words context) process.pid caller process.descs fd caller_there refl range.0 range.1

  -- exit
  pub served_exit : (now : Records) (now_words : WordMap) (now_tapes : ℕ → List ℕ) → IsDone r words tapes slot process (PlanOnce (ended_items head slot saved (argument_of saved 0 % 256) trap)) now now_words now_tapes
      → Ends now now_words now_tapes (exit_entry state process.pid caller)
  unfolding ended_items exit_entry unix_of
  served_exit now now_words now_tapes served =
      let status = argument_of saved 0 % 256 in
      let small : status ≤ 0xff = omega arith in
      let then_records = ended_records r head slot process status trap in
      ap (λ (x : Records). unix_of x now_words now_tapes InKernel (steps + 1) (traps + 1)) served.0
      ∙ (ap (λ (ws : WordMap). unix_of then_records ws now_tapes InKernel (steps + 1) (traps + 1)) served.1
      ∙ (ap (λ (ts : ℕ → List ℕ). unix_of then_records words ts InKernel (steps + 1) (traps + 1)) served.2
      ∙ ended_unix r head slot process status trap words tapes context steps traps caller sound is_head is (inl small) of caller_there))

  -- sbrk
  caller_fits : FitsProc process
  caller_fits = fits_there r slot process sound.values is.there

  -- the caller once its heap has so many bytes more
  abbrev grown_caller : (bytes : ℕ) → Process
  grown_caller bytes = record caller { brk = process.brk + bytes; pages = with_zero_pages caller.pages (unix.heap_end caller.pages) (pages_more saved bytes) }

  break_there : unix.break_of caller ≡ break_of saved
  break_there = break_is r words slot process (bank_by context process) caller_fits is.live

  pages_there : (bytes : ℕ) (then_records : Records) (then_words : WordMap) → IsGrown (held_as r words) (held_as then_records then_words) slot (pages_more saved bytes) process
      → pages_of then_records then_words slot (grown_process saved bytes)
      ≡ with_zero_pages (pages_of r words slot process) (unix.heap_end (pages_of r words slot process)) (pages_more saved bytes)
  pages_there bytes then_records then_words grows =
      grows.pages (grown_process saved bytes) (grown_has process saved bytes refl refl refl)
      ∙ ap (λ (first : ℕ). with_zero_pages (pages_of r words slot process) first (pages_more saved bytes)) (sym (heap_ends r words slot process caller_fits is.live))

  grown_is : (u : Unix) (bytes : ℕ) (owners : ℕ → ℕ) (tables : (slot table word : ℕ) → ℕ) (then_words : WordMap)
      → IsGrown (held_as r words) (held_as (prepared r owners tables) then_words) slot (pages_more saved bytes) process
      → with_process u process.pid (process_of (prepared r owners tables) then_words slot (grown_process saved bytes)) ≡ answered u process.pid (grown_caller bytes) (unix.break_of caller)
  unfolding answered process_of
  grown_is u bytes owners tables then_words grows =
      let base = prepared r owners tables in
      ap (with_process u process.pid) (λ i. record (process_of base then_words slot (grown_process saved bytes)) {
        pages = pages_there bytes base then_words grows i;
        bank = record { pc = wrapped (saved.pc + 4); regs = with_register saved.regs 10 (sym break_there i) };
      })

  served_grown : (bytes : ℕ) (now : Records) (now_words : WordMap) (now_tapes : ℕ → List ℕ)
      → IsDone r words tapes slot process (PlanGrow (pages_more saved bytes) (items_of (caller_with slot trap head saved) (grown_process saved bytes))) now now_words now_tapes
      → Ends now now_words now_tapes (answered state process.pid (grown_caller bytes) (unix.break_of caller))
  served_grown bytes now now_words now_tapes served =
      let items = items_of (caller_with slot trap head saved) (grown_process saved bytes) in
      let count = pages_more saved bytes in
      let owners = served.0.owners in
      let tables = served.0.table_words in
      let base = prepared r owners tables in
      let prepares : OnlyPrepares slot (held_as r words) (held_as base now_words) =
      subst (λ (x : Records). OnlyPrepares slot (held_as r words) (held_as x now_words)) served.1.records served.1 in
      let grows : IsGrown (held_as r words) (held_as base now_words) slot count process =
      subst (λ (x : Records). IsGrown (held_as r words) (held_as x now_words) slot count process) served.1.records served.2 in
      let has = grown_has process saved bytes refl refl refl in
      ap (λ (x : Records). unix_of x now_words now_tapes InKernel (steps + 1) (traps + 1)) served.3
      ∙ (ap (λ (x : Records). unix_of (with_items x items) now_words now_tapes InKernel (steps + 1) (traps + 1)) served.1.records
      ∙ (ap (λ (ts : ℕ → List ℕ). unix_of (with_items base items) now_words ts InKernel (steps + 1) (traps + 1)) served.4
      ∙ (ends_grown bytes owners tables now_words
      (grown_mapped r words slot owners tables now_words sound prepares process is (grown_process saved bytes) count has grows)
      (others_stay r words slot owners tables now_words sound prepares)
      ∙ grown_is state bytes owners tables now_words grows)))

  sbrk_by : (test : Bool) (bytes : ℕ) (now : Records) (now_words : WordMap) (now_tapes : ℕ → List ℕ)
      → IsDone r words tapes slot process
      (if test then planned_answer (caller_with slot trap head saved) (minus 12) else PlanGrow (pages_more saved bytes) (items_of (caller_with slot trap head saved) (grown_process saved bytes)))
      now now_words now_tapes
      → Ends now now_words now_tapes (if test then answered state process.pid caller (minus 12) else answered state process.pid (grown_caller bytes) (unix.break_of caller))
  sbrk_by true bytes now now_words now_tapes served = served_answer (minus 12) now now_words now_tapes served
  sbrk_by false bytes now now_words now_tapes served = served_grown bytes now now_words now_tapes served

  -- whether there is room is told by frames that are free as by pages that there are
  rooms_agree : AreCountedFrames r → (bytes : ℕ)
      → (nat_lt 0x400000 (break_of saved + bytes) || nat_lt (free_before r r.map.user_frames) (pages_more saved bytes))
      ≡ (nat_lt 0x400000 (unix.break_of caller + bytes) || nat_lt r.map.user_frames (unix.pages_of_all (processes_of r words context) + pages_more saved bytes))
  rooms_agree counted bytes =
      let user = r.map.user_frames in
      let new = pages_more saved bytes in
      ap (λ (test : Bool). nat_lt 0x400000 (break_of saved + bytes) || test) (sym (room_same (free_before r user) (pages_of_all r 16) user new counted))
      ∙ (ap (λ (n : ℕ). nat_lt 0x400000 (break_of saved + bytes) || nat_lt user (n + new)) (sym (all_counted r words context sound))
      ∙ ap (λ (a : ℕ). nat_lt 0x400000 (a + bytes) || nat_lt user (unix.pages_of_all (processes_of r words context) + new)) (sym break_there))

  pub served_sbrk : AreCountedFrames r → (now : Records) (now_words : WordMap) (now_tapes : ℕ → List ℕ)
      → IsDone r words tapes slot process (planned_sbrk r (caller_with slot trap head saved)) now now_words now_tapes
      → Ends now now_words now_tapes (sbrk_entry state process.pid caller)
  unfolding planned_sbrk sbrk_entry trapped unix_of process_of
  served_sbrk counted now now_words now_tapes served =
      let bytes = argument_of saved 0 in
      subst (λ (test : Bool). Ends now now_words now_tapes (if test then answered state process.pid caller (minus 12) else answered state process.pid (grown_caller bytes) (unix.break_of caller)))
      (rooms_agree counted bytes)
      (sbrk_by (nat_lt 0x400000 (break_of saved + bytes) || nat_lt (free_before r r.map.user_frames) (pages_more saved bytes)) bytes now now_words now_tapes served)

  -- wait
  pub served_waiting : (now : Records) (now_words : WordMap) (now_tapes : ℕ → List ℕ)
      → IsDone r words tapes slot process (planned_wait r (pages_of r words slot process) (caller_with slot trap head saved)) now now_words now_tapes
      → Ends now now_words now_tapes (wait_entry state process.pid caller)
  served_waiting now now_words now_tapes served =
      served_wait r head slot process trap words tapes context steps traps sound is_head is of now now_words now_tapes
      (λ after next once. served_once after now now_words now_tapes next once) served
