-- The call fork: what it makes of the records is what it makes of the state that they stand for.
use Rattle.std.proofs.Common.{◌≡◌, ◌||◌, not, if◌then◌else◌, ℕ, zero, suc, ◌+◌, Bool, false, nat_le, nat_lt, List, Option, Some, None, is_some, inl, inr, refl, sym, ap, subst, ◌∙◌, arith}
use Rattle.std.proofs.lemmas.Bool.{cases_Bool}
use Rattle.std.proofs.lemmas.Bool.Decides.{nat_tests}
use Rattle.ow_base.specs.Sv32.{WordMap}
use Rattle.ow_base.specs.Words.{minus}
use Rattle.record_layouts.specs.declared.head.HeadRec.{HeadRec}
use Rattle.record_layouts.specs.declared.proc.ProcRec.{ProcRec}
use Rattle.record_layouts.specs.declared.sig.SigRec.{SigRec}
use Rattle.record_layouts.specs.Unix.Calls.{answered, fork_entry, slots_taken, trapped, with_child}
use Rattle.record_layouts.specs.Unix.Choice.{is_any, least_from}
use Rattle.record_layouts.specs.Unix.State.{Process, Unix}
use Rattle.record_layouts.specs.Unix.Spaces as unix
use Rattle.record_layouts.specs.Decode.{Context, InKernel, next_by, process_of, processes_of, unix_of}
use Rattle.record_layouts.specs.Held.{Records, with_items}
use Rattle.record_layouts.specs.Pages.{page_total}
use Rattle.record_layouts.specs.Sound.{AreSound, IsIn}
use Rattle.frame_table.specs.Counts.{pages_of_all}
use Rattle.frame_table.specs.Free.{free_before}
use Rattle.frame_table.proofs.Counting.{fits_there}
use Rattle.address_space.specs.Spaces.{IsCopied, OnlyPrepares}
use Rattle.process_table.specs.Meaning.{IsOf}
use Rattle.process_table.specs.Patches.{fork_items, saved_process}
use Rattle.process_table.specs.Slots.{is_free}
use Rattle.process_table.proofs.Least.{least_passes, least_within}
use Rattle.process_table.proofs.TakenSlots.{all_taken}
use Rattle.syscalls.specs.Planned.{PlanFork, caller_with, planned_fork, planned_fork_in}
use Rattle.syscalls.specs.Done.{AreCountedFrames, IsDone, held_as}
use Rattle.syscalls.proofs.Becoming.{bank_by, prepared}
use Rattle.syscalls.proofs.Counted.{all_counted, decoded_pages, room_same}
use Rattle.syscalls.proofs.Forked.{CanFork}
use Rattle.syscalls.proofs.ForkSound.{fork_sound}
use Rattle.syscalls.proofs.ForkUnix.{forked_unix}
use Rattle.syscalls.proofs.Served.{served_answer}

-- one passes where there is a least one that does
any_is : (test : ℕ → Bool) (first count : ℕ) → is_any test first count ≡ is_some (least_from test first count)
unfolding is_any least_from
any_is test first zero = refl
any_is test first (suc count) = elim (cases_Bool (test first)) [
  | inl passes ↦ rw passes refl
  | inr fails ↦ rw fails (any_is test (first + 1) count)
]

module _ (r : Records) (head : HeadRec) (slot : ℕ) (process : ProcRec) (trap : ℕ) (words : WordMap) (tapes : ℕ → List ℕ) (context : Context) (steps traps : ℕ)
    (sound : AreSound r) (is_head : r.head ≡ Some head) (is : IsIn r slot process) (of : IsOf context process.pid) where
  abbrev saved : ProcRec
  saved = saved_process process (bank_by context process)

  abbrev caller : Process
  caller = record (process_of r words slot process) { bank = bank_by context process }

  abbrev state : Unix
  state = trapped (unix_of r words tapes context steps traps) process.pid

  abbrev Ends : Records → WordMap → (ℕ → List ℕ) → Unix → Type 0
  Ends done done_words done_tapes u = unix_of done done_words done_tapes InKernel (steps + 1) (traps + 1) ≡ u

  abbrev open_slot : ℕ → Bool
  open_slot place = is_free r (r.procs place)

  -- the state with the child
  abbrev with_one : Unix
  with_one = answered (with_child state process.pid caller) process.pid caller (next_by r.head)

  -- what a fork makes of the state, by the three tests
  abbrev fork_by : (full late tight : Bool) → Unix
  fork_by full late tight =
      if full || late then answered state process.pid caller (minus 11) else
      if tight then answered state process.pid caller (minus 12) else with_one

  abbrev is_tight : Bool
  is_tight = nat_lt (free_before r r.map.user_frames) (page_total saved)

  full_same : nat_le 16 (slots_taken state) ≡ not (is_any open_slot 0 16)
  unfolding slots_taken trapped
  full_same = all_taken r words context sound tapes steps traps

  own_pages : unix.pages_of_one (Some caller) ≡ page_total saved
  unfolding page_total
  own_pages = decoded_pages r words slot process (fits_there r slot process sound.values is.there) is.live

  tight_same : AreCountedFrames r → nat_lt r.map.user_frames (unix.pages_of_all (processes_of r words context) + unix.pages_of_one (Some caller)) ≡ is_tight
  tight_same counted =
      let user = r.map.user_frames in
      ap (λ (n : ℕ). nat_lt user (unix.pages_of_all (processes_of r words context) + n)) own_pages
      ∙ (ap (λ (n : ℕ). nat_lt user (n + page_total saved)) (all_counted r words context sound)
      ∙ room_same (free_before r user) (pages_of_all r 16) user (page_total saved) counted)

  entry_is : AreCountedFrames r → fork_entry state process.pid caller ≡ fork_by (not (is_any open_slot 0 16)) (nat_lt 256 head.next) is_tight
  unfolding fork_entry trapped unix_of
  entry_is counted =
      ap (λ (full : Bool). fork_by full (nat_lt 256 (next_by r.head)) (nat_lt r.map.user_frames (unix.pages_of_all (processes_of r words context) + unix.pages_of_one (Some caller)))) full_same
      ∙ (ap (λ (tight : Bool). fork_by (not (is_any open_slot 0 16)) (nat_lt 256 (next_by r.head)) tight) (tight_same counted)
      ∙ ap (λ (next : ℕ). fork_by (not (is_any open_slot 0 16)) (nat_lt 256 next) is_tight) (ap next_by is_head))

  -- the call that is served
  module _ (now : Records) (now_words : WordMap) (now_tapes : ℕ → List ℕ) where
    forked : (child : ℕ) (signals : SigRec) → CanFork r head slot child process signals
        → IsDone r words tapes slot process (PlanFork child (fork_items head slot child saved signals trap)) now now_words now_tapes
        → Ends now now_words now_tapes with_one
    forked child signals fork served =
        let items = fork_items head slot child saved signals trap in
        let owners = served.0.owners in
        let tables = served.0.table_words in
        let base = prepared r owners tables in
        let prepares : OnlyPrepares child (held_as r words) (held_as base now_words) =
        subst (λ (x : Records). OnlyPrepares child (held_as r words) (held_as x now_words)) served.1.records served.1 in
        let copied : IsCopied (held_as r words) (held_as base now_words) slot child process =
        subst (λ (x : Records). IsCopied (held_as r words) (held_as x now_words) slot child process) served.1.records served.2 in
        let sound_then = fork_sound r head slot child process (bank_by context process) signals trap fork words now_words owners tables prepares copied in
        ap (λ (x : Records). unix_of x now_words now_tapes InKernel (steps + 1) (traps + 1)) served.3
        ∙ (ap (λ (x : Records). unix_of (with_items x items) now_words now_tapes InKernel (steps + 1) (traps + 1)) served.1.records
        ∙ (ap (λ (ts : ℕ → List ℕ). unix_of (with_items base items) now_words ts InKernel (steps + 1) (traps + 1)) served.4
        ∙ forked_unix r head slot child process signals trap words now_words context owners tables fork of prepares copied sound_then tapes steps traps))

    -- with a slot for the child
    fork_in : (child : ℕ) (signals : SigRec) → least_from open_slot 0 16 ≡ Some child → r.sigs slot ≡ Some signals
        → IsDone r words tapes slot process (planned_fork_in r (caller_with slot trap head saved) (Some child) (Some signals)) now now_words now_tapes
        → Ends now now_words now_tapes (fork_by false (nat_lt 256 head.next) is_tight)
    fork_in child signals found signalled served = elim (cases_Bool (nat_lt 256 head.next)) [
      | inl late ↦ rw late (served_answer r head slot process trap words tapes context steps traps sound is_head is of (minus 11) now now_words now_tapes (rw late at served))
      | inr early ↦ elim (cases_Bool is_tight) [
        | inl tight ↦ rw (early, tight) (served_answer r head slot process trap words tapes context steps traps sound is_head is of (minus 12) now now_words now_tapes (rw (early, tight) at served))
        | inr room ↦
            let fork : CanFork r head slot child process signals = record {
              sound = sound;
              is_head = is_head;
              is = is;
              within = (least_within open_slot 0 16 child found).1;
              free = least_passes open_slot 0 16 child found;
              signalled = signalled;
              few = grind (arith, nat_tests, early);
            } in
            rw (early, room) (forked child signals fork (rw (early, room) at served))
      ]
    ]

    fork_found : (found : Option ℕ) (held : Option SigRec) → least_from open_slot 0 16 ≡ found → r.sigs slot ≡ held
        → IsDone r words tapes slot process (planned_fork_in r (caller_with slot trap head saved) found held) now now_words now_tapes
        → Ends now now_words now_tapes (fork_by (not (is_some found)) (nat_lt 256 head.next) is_tight)
    fork_found (Some child) (Some signals) there signalled served = fork_in child signals there signalled served
    fork_found (Some child) None there none served =
        let signals = sound.numbered.signals slot process is in
        let both : None ≡ Some signals.0 = sym none ∙ signals.1 in
        absurd (cc both)
    fork_found None held there signalled served =
        served_answer r head slot process trap words tapes context steps traps sound is_head is of (minus 11) now now_words now_tapes served

    pub served_fork : AreCountedFrames r → IsDone r words tapes slot process (planned_fork r (caller_with slot trap head saved)) now now_words now_tapes
        → Ends now now_words now_tapes (fork_entry state process.pid caller)
    unfolding planned_fork
    served_fork counted served =
        fork_found (least_from open_slot 0 16) (r.sigs slot) refl refl served
        ∙ (ap (λ (some : Bool). fork_by (not some) (nat_lt 256 head.next) is_tight) (sym (any_is open_slot 0 16)) ∙ sym (entry_is counted))
