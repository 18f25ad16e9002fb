-- A wait by records is the wait of the Unix.
use Rattle.std.proofs.Common.{◌≡◌, ◌==◌, not, if◌then◌else◌, ℕ, ◌+◌, Bool, true, false, List, Option, Some, None, option_and_then, inl, inr, refl, sym, ap, subst, ◌∙◌, arith}
use Rattle.ow_base.specs.Sv32.{WordMap}
use Rattle.ow_base.specs.Pages.{Pages}
use Rattle.ow_base.specs.Words.{minus, updated}
use Rattle.record_layouts.specs.declared.head.HeadRec.{HeadRec}
use Rattle.record_layouts.specs.declared.proc.ProcRec.{ProcRec}
use Rattle.record_layouts.specs.Unix.State.{EndedChild, Process, Unix}
use Rattle.record_layouts.specs.Unix.Calls.{answered, stays_in, trapped, wait_entry, wait_for, waited_by, with_process, with_status, without_child}
use Rattle.record_layouts.specs.declared.patch.PatchItem.{PatchItem}
use Rattle.record_layouts.specs.Unix.Children.{ended_child, has_child, status_of}
use Rattle.record_layouts.specs.Unix.Spaces.{with_word}
use Rattle.record_layouts.specs.Held.{Records, with_items}
use Rattle.record_layouts.specs.Pages.{is_live, pages_of}
use Rattle.record_layouts.specs.Decode.{Context, InKernel, process_of, unix_of}
use Rattle.record_layouts.specs.Sound.{AreSound, IsIn}
use Rattle.process_table.specs.Children.{IsChildOf, IsWaited, child_slot}
use Rattle.process_table.specs.Meaning.{IsOf}
use Rattle.process_table.specs.Patches.{answered_process, saved_process, wait_items}
use Rattle.process_table.specs.Slots.{has_such, is_live_child}
use Rattle.process_table.proofs.Kept.{same_or_not, set_here, set_other}
use Rattle.process_table.proofs.Regions.{SameRegions, mapped_same, pages_same}
use Rattle.process_table.proofs.Waiting.{live_agrees, waits_agree}
use Rattle.syscalls.specs.Planned.{PlanOnce, PlanPut, argument_of, caller_with, items_of, planned_answer, planned_take, planned_wait, planned_wait_on, refuses_status, waiting_items, waiting_process}
use Rattle.syscalls.specs.Done.{IsDone}
use Rattle.syscalls.proofs.Becoming.{IsAfter, OthersStay, bank_by, becomes_then, becoming, next_of}
use Rattle.syscalls.proofs.Freed.{IsOnlyEnded, freed_unix}
use Rattle.syscalls.proofs.WordPut.{put_others, put_pages}

module _ (r : Records) (head : HeadRec) (slot : ℕ) (process : ProcRec) (trap : ℕ) (words : WordMap) (tapes : ℕ → List ℕ) (context : Context) (steps traps : ℕ)
    (sound : AreSound r) (is_head : r.head ≡ Some head) (is : IsIn r slot process) (of : IsOf context process.pid) where
  -- the caller as its call finds it, and the state in which its trap begins
  abbrev saved : ProcRec
  saved = saved_process process (bank_by context process)

  abbrev caller : Process
  caller = record (process_of r words slot process) { bank = bank_by context process }

  abbrev before : Unix
  before = unix_of r words tapes context steps traps

  abbrev state : Unix
  state = trapped before process.pid

  abbrev Ends : Records → WordMap → (ℕ → List ℕ) → Unix → Type 0
  Ends done done_words done_tapes u = unix_of done done_words done_tapes InKernel (steps + 1) (traps + 1) ≡ u

  answer_regions : (answer : ℕ) → SameRegions (answered_process saved answer) process
  answer_regions answer = record { live = refl; lives = is.live; code = refl; values = refl; brk = refl }

  answer_after : (answer : ℕ) → IsAfter process (answered_process saved answer)
  answer_after answer = record { pid = refl; parent = refl; status = refl; descs = refl; regions = answer_regions answer }

  -- a child that has ended is taken, once other words may be there
  module _ (place : ℕ) (child : ProcRec) (there : r.procs place ≡ Some child) (ended : child.state ≡ 3) where
    place_apart : place ≡ slot → ⊥
    place_apart same =
        let both : Some child ≡ Some process = sym there ∙ (ap r.procs same ∙ is.there) in
        let equal : child ≡ process = cc in
        let state_is : process.state ≡ 3 = ap (λ (p : ProcRec). p.state) (sym equal) ∙ ended in
        let live : is_live process ≡ true = is.live in
        absurd (cc (rw state_is at live))

    abbrev answered_records : Records
    answered_records = becoming r head slot process.pid (answered_process saved child.pid) r.terms r.rows trap

    child_there : answered_records.procs place ≡ Some child
    child_there = set_other r.procs slot (Some (answered_process saved child.pid)) place place_apart ∙ there

    only_child : IsOnlyEnded answered_records place child.pid
    only_child other another held state_is pid_is = elim (same_or_not other slot) [
      | inl equal ↦
          let here : Some another ≡ Some (answered_process saved child.pid) =
          sym held ∙ (ap answered_records.procs equal ∙ set_here r.procs slot (Some (answered_process saved child.pid))) in
          let same : another ≡ answered_process saved child.pid = cc in
          let one : 1 ≡ 3 = sym (ap (λ (p : ProcRec). p.state) same) ∙ state_is in
          absurd (omega (arith, one))
      | inr apart ↦ sound.numbered.one_ended other place another child
          (sym (set_other r.procs slot (Some (answered_process saved child.pid)) other apart) ∙ held) there state_is ended pid_is
    ]

    pub waits_then : (words_then : WordMap) → OthersStay r words slot r words_then
        → Ends (with_items r (wait_items head slot saved place child.pid trap)) words_then tapes
        (with_process (without_child state child.pid) process.pid (process_of r words_then slot (answered_process saved child.pid)))
    unfolding wait_items unix_of trapped
    waits_then words_then others =
        freed_unix answered_records place child child_there ended only_child words_then tapes (steps + 1) (traps + 1)
        ∙ ap (λ (u : Unix). record u { ended = updated u.ended child.pid None })
        (becomes_then r head slot process (answered_process saved child.pid) r.terms r.rows trap words words_then context sound is_head is of
        (next_of process (answered_process saved child.pid) (answer_after child.pid)) r.owners r.table_words
        (mapped_same r slot (answered_process saved child.pid) process (answer_regions child.pid) ∙ sound.mapped.mapped slot process is) others tapes tapes steps traps)

  -- what the caller is once it is answered, with these pages
  answered_is : (u : Unix) (answer : ℕ) (words_then : WordMap) (pages : Pages) → pages_of r words_then slot process ≡ pages
      → with_process u process.pid (process_of r words_then slot (answered_process saved answer)) ≡ answered u process.pid (record caller { pages = pages }) answer
  unfolding answered process_of
  answered_is u answer words_then pages same = ap (with_process u process.pid) (λ i. record (process_of r words_then slot (answered_process saved answer)) {
    pages = (pages_same r words_then slot (answered_process saved answer) process (answer_regions answer) ∙ same) i;
  })

  others_same : OthersStay r words slot r words
  others_same = record { mapped = λ place other there apart. sound.mapped.mapped place other there; pages = λ place other there apart. refl }

  wait_regions : SameRegions (waiting_process saved) process
  wait_regions = record { live = refl; lives = is.live; code = refl; values = refl; brk = refl }

  wait_after : IsAfter process (waiting_process saved)
  wait_after = record { pid = refl; parent = refl; status = refl; descs = refl; regions = wait_regions }

  waiting_is : with_process state process.pid (process_of r words slot (waiting_process saved)) ≡ stays_in state process.pid caller 10 0
  unfolding stays_in process_of
  waiting_is = ap (with_process state process.pid) (λ i. record (process_of r words slot (waiting_process saved)) {
    pages = pages_same r words slot (waiting_process saved) process wait_regions i;
  })

  -- a child is taken: its status word is stored where it is asked for
  module _ (place : ℕ) (child : ProcRec) (there : r.procs place ≡ Some child) (ended : child.state ≡ 3) (now : Records) (now_words : WordMap) (now_tapes : ℕ → List ℕ) where
    abbrev items : List PatchItem
    items = wait_items head slot saved place child.pid trap

    taken_by : (none : Bool) → IsDone r words tapes slot process (if none then PlanOnce items else PlanPut (argument_of saved 0) child.status items) now now_words now_tapes
        → Ends now now_words now_tapes (answered (without_child state child.pid) process.pid (if not none then with_status caller child.status else caller) child.pid)
    unfolding process_of
    taken_by true served =
        ap (λ (x : Records). unix_of x now_words now_tapes InKernel (steps + 1) (traps + 1)) served.0
        ∙ (ap (λ (ws : WordMap). unix_of (with_items r items) ws now_tapes InKernel (steps + 1) (traps + 1)) served.1
        ∙ (ap (λ (ts : ℕ → List ℕ). unix_of (with_items r items) words ts InKernel (steps + 1) (traps + 1)) served.2
        ∙ (waits_then place child there ended words others_same
        ∙ answered_is (without_child state child.pid) child.pid words (pages_of r words slot process) refl)))
    taken_by false served =
        ap (λ (x : Records). unix_of x now_words now_tapes InKernel (steps + 1) (traps + 1)) served.1
        ∙ (ap (λ (ts : ℕ → List ℕ). unix_of (with_items r items) now_words ts InKernel (steps + 1) (traps + 1)) served.2
        ∙ (waits_then place child there ended now_words (put_others r words now_words slot process (argument_of saved 0) child.status sound is served.0)
        ∙ answered_is (without_child state child.pid) child.pid now_words (with_word (pages_of r words slot process) (argument_of saved 0) child.status)
        (put_pages r words now_words slot process (argument_of saved 0) child.status sound is served.0)))

  -- where a call that sets the caller and nothing else is served as in the Unix, so is a wait
  module _ (now : Records) (now_words : WordMap) (now_tapes : ℕ → List ℕ)
      (once : (after : ProcRec) → IsAfter process after → IsDone r words tapes slot process (PlanOnce (items_of (caller_with slot trap head saved) after)) now now_words now_tapes
      → unix_of now now_words now_tapes InKernel (steps + 1) (traps + 1)
      ≡ with_process (trapped (unix_of r words tapes context steps traps) process.pid) process.pid (process_of r words slot after)) where
    answer_then : (answer : ℕ) → IsDone r words tapes slot process (planned_answer (caller_with slot trap head saved) answer) now now_words now_tapes
        → Ends now now_words now_tapes (answered state process.pid caller answer)
    unfolding process_of
    answer_then answer served = once (answered_process saved answer) (answer_after answer) served ∙ answered_is state answer words (pages_of r words slot process) refl

    refused_by : (place : ℕ) (child : ProcRec) → r.procs place ≡ Some child → child.state ≡ 3 → (refuses : Bool)
        → IsDone r words tapes slot process
        (if refuses then planned_answer (caller_with slot trap head saved) (minus 14) else planned_take (caller_with slot trap head saved) place child) now now_words now_tapes
        → Ends now now_words now_tapes
        (if refuses then answered state process.pid caller (minus 14) else answered (without_child state child.pid) process.pid (waited_by caller child.status) child.pid)
    refused_by place child there ended true served = answer_then (minus 14) served
    refused_by place child there ended false served = taken_by place child there ended now now_words now_tapes (argument_of saved 0 == 0) served

    waiting_by : (waits : Bool) → IsDone r words tapes slot process
        (PlanOnce (items_of (caller_with slot trap head saved) (if waits then waiting_process saved else answered_process saved (minus 10)))) now now_words now_tapes
        → Ends now now_words now_tapes (if waits then stays_in state process.pid caller 10 0 else answered state process.pid caller (minus 10))
    waiting_by true served = once (waiting_process saved) wait_after served ∙ waiting_is
    waiting_by false served = answer_then (minus 10) served

    -- a child has ended
    wait_some : (place : ℕ) → IsChildOf r before process.pid place
        → IsDone r words tapes slot process
        (planned_wait_on r (pages_of r words slot process) (caller_with slot trap head saved) (Some place) (r.procs place)) now now_words now_tapes
        → Ends now now_words now_tapes (wait_for state process.pid caller (ended_child before process.pid))
    unfolding trapped process_of
    wait_some place child served =
        let pages = pages_of r words slot process in
        let c = caller_with slot trap head saved in
        let pid = child.process.pid in
        let there : IsDone r words tapes slot process (planned_wait_on r pages c (Some place) (Some child.process)) now now_words now_tapes =
        subst (λ (held : Option ProcRec). IsDone r words tapes slot process (planned_wait_on r pages c (Some place) held) now now_words now_tapes) child.there served in
        refused_by place child.process child.there child.state (refuses_status pages c) there
        ∙ (ap (λ (ended : Option EndedChild). if refuses_status pages c then answered state process.pid caller (minus 14) else
        answered (without_child state pid) process.pid (waited_by caller (status_of ended)) pid) (sym child.ended)
        ∙ ap (wait_for state process.pid caller) (sym child.first))

    -- none has
    wait_none : ended_child before process.pid ≡ None → IsDone r words tapes slot process (PlanOnce (waiting_items r (caller_with slot trap head saved))) now now_words now_tapes
        → Ends now now_words now_tapes (wait_for state process.pid caller (ended_child before process.pid))
    unfolding trapped has_child
    wait_none none served = waiting_by (has_such r (is_live_child process.pid)) served
        ∙ (ap (λ (test : Bool). if test then stays_in state process.pid caller 10 0 else answered state process.pid caller (minus 10))
        (sym (live_agrees r words tapes context steps traps process.pid sound))
        ∙ ap (wait_for state process.pid caller) (sym none))

    wait_by : (found : Option ℕ) → IsWaited r before process.pid found
        → IsDone r words tapes slot process
        (planned_wait_on r (pages_of r words slot process) (caller_with slot trap head saved) found (option_and_then r.procs found)) now now_words now_tapes
        → Ends now now_words now_tapes (wait_for state process.pid caller (ended_child before process.pid))
    wait_by None waited served = wait_none waited served
    wait_by (Some place) waited served = wait_some place waited served

    pub served_wait : IsDone r words tapes slot process (planned_wait r (pages_of r words slot process) (caller_with slot trap head saved)) now now_words now_tapes
        → unix_of now now_words now_tapes InKernel (steps + 1) (traps + 1) ≡ wait_entry (trapped (unix_of r words tapes context steps traps) process.pid) process.pid caller
    unfolding planned_wait wait_entry ended_child trapped
    served_wait served = wait_by (child_slot r process.pid) (waits_agree r words tapes context steps traps slot process sound is) served
