-- What is left of a wait of which the status word of the child is stored, and nothing else is done.
use Rattle.std.proofs.Common.{◌≡◌, ◌==◌, ℕ, true, false, List, Option, Some, None, inl, inr, refl, sym, ap, subst, ◌∙◌, arith}
use Rattle.std.proofs.lemmas.Bool.{cases_Bool}
use Rattle.std.proofs.lemmas.Bool.Decides.{nat_tests}
use Rattle.ow_base.specs.Pages.{Pages}
use Rattle.ow_base.specs.Sv32.{WordMap}
use Rattle.ow_base.specs.UserStep.{register}
use Rattle.phys_memory.specs.Memory.{words_of}
use Rattle.record_layouts.specs.declared.head.HeadRec.{HeadRec}
use Rattle.record_layouts.specs.declared.patch.PatchItem.{PatchItem}
use Rattle.record_layouts.specs.declared.proc.ProcRec.{ProcRec}
use Rattle.record_layouts.specs.declared.traps.Trap.{Trap}
use Rattle.record_layouts.specs.declared.traps.Trap.TheVariants as trap
use Rattle.record_layouts.specs.Decode.{Context, InKernel, InUser, process_of, unix_of}
use Rattle.record_layouts.specs.Held.{Records}
use Rattle.record_layouts.specs.Pages.{pages_of}
use Rattle.record_layouts.specs.Sound.{AreSound, IsIn}
use Rattle.record_layouts.specs.Unix.Broken.{IsBrokenFrom, IsStatusPut, StoresStatus, broken_as, call_of_trap, status_put, undone_of}
use Rattle.record_layouts.specs.Unix.Calls.{argument, with_process, with_status}
use Rattle.record_layouts.specs.Unix.Children.{status_of}
use Rattle.record_layouts.specs.Unix.Spaces.{takes_word, with_word}
use Rattle.record_layouts.specs.Unix.State.{Process, Unix}
use Rattle.record_layouts.specs.Unix.Traps.{caller_of, pid_of}
use Rattle.address_space.specs.Spaces.{IsWordPut}
use Rattle.process_table.specs.Children.{IsChildOf, IsWaited}
use Rattle.process_table.specs.Meaning.{IsOf}
use Rattle.process_table.specs.Patches.{saved_process}
use Rattle.process_table.proofs.Waiting.{waits_agree}
use Rattle.syscalls.specs.Planned.{PlanPut, caller_with, planned_call, planned_piece, refuses_status}
use Rattle.syscalls.proofs.Becoming.{bank_by, caller_decodes}
use Rattle.ow_plant.specs.Images.{tapes_of}
use Rattle.ow_plant.specs.State.{PlantState, now_of}
use Rattle.intent_store.specs.Live.{held_of, records_held}
use Rattle.kernel_traps.specs.Broken.{unix_left_at}
use Rattle.kernel_traps.specs.Plants.{context_of, unix_at}
use Rattle.kernel_traps.specs.Traps.{IsDue, IsPlanOf, begun_by}
use Rattle.kernel_traps.proofs.Entering.{MayTrap}
use Rattle.kernel_traps.proofs.LeftTraps.{left_at, undone_with}
use Rattle.kernel_traps.proofs.Preparing.{put_as}
use Rattle.kernel_traps.proofs.Stays.{contents_of, pages_beside, unix_beside}
use Rattle.kernel_traps.proofs.TakenChild.{IsTaken, call_taken, piece_taken}
use Rattle.kernel_traps.proofs.TrapUnix.{by_rest}
use Rattle.kernel_traps.proofs.WordsLeft.{word_left}

module _ (s : PlantState) (t : Trap) (may : MayTrap s t) (due : IsDue s t) (slot : ℕ) (head : HeadRec) (is_head : (records_held s).head ≡ Some head)
    (process : ProcRec) (is : IsIn (records_held s) slot process) (context : Context) (of : IsOf context process.pid) (is_context : context_of s ≡ context)
    (address status trap_number : ℕ)
    (taken : IsTaken (records_held s) (pages_of (records_held s) (words_of s.memory) slot process) slot trap_number head (saved_process process (bank_by context process)) address status)
    (new : PlantState) (put : IsWordPut (held_of (begun_by s t)) (held_of new) slot address status) where
  abbrev r : Records
  r = records_held s

  abbrev words : WordMap
  words = contents_of s

  -- the state before, with the process that waits, and the child
  abbrev before : Unix
  before = unix_of r words (tapes_of s) context s.steps s.traps

  abbrev caller : Process
  caller = record (process_of r words slot process) { bank = bank_by context process }

  sound : AreSound r
  sound = may.sound.held.records

  before_is : before ≡ unix_at s
  unfolding unix_at
  before_is =
      ap (λ (c : Context). unix_of r words (tapes_of s) c s.steps s.traps) (sym is_context) ∙ unix_beside s (tapes_of s) (context_of s) s.steps s.traps

  child : IsChildOf r before process.pid taken.place
  child = subst (λ (found : Option ℕ). IsWaited r before process.pid found) taken.found (waits_agree r words (tapes_of s) context s.steps s.traps slot process sound is)

  same_child : child.process ≡ taken.child
  same_child = let both : Some child.process ≡ Some taken.child = sym child.there ∙ taken.there in cc

  caller_lives : before.processes process.pid ≡ Some caller
  unfolding unix_of
  caller_lives = caller_decodes r words context slot process sound is of

  takes : takes_word caller.pages (argument caller 0) ≡ true
  unfolding process_of
  takes =
      let now = subst (λ (pages : Pages). refuses_status pages (caller_with slot trap_number head (saved_process process (bank_by context process))) ≡ false) (pages_beside s slot process) taken.takes in
      elim (cases_Bool (takes_word (pages_of r words slot process) (argument caller 0))) [
        | inl able ↦ able
        | inr not_so ↦ absurd (cc (rw (taken.asks, not_so) at now))
      ]

  stores : pid_of t ≡ Some process.pid → call_of_trap t caller ≡ Some 10 → StoresStatus t before process.pid caller child.process.pid
  stores pid waits = record {
    is_live = caller_lives;
    has_trap = pid;
    waits = waits;
    finds = child.first;
    asks = rw taken.asks refl;
    takes = takes;
  }

  -- the word is the status of the child
  status_is : status ≡ status_of (before.ended child.process.pid)
  status_is = sym taken.status_is ∙ (ap (λ (p : ProcRec). p.status) (sym same_child) ∙ sym (ap status_of child.ended))

  stored_is : record caller { pages = with_word caller.pages address status } ≡ with_status caller (status_of (before.ended child.process.pid))
  stored_is = λ i. record caller { pages = with_word caller.pages (sym taken.address_is i) (status_is i) }

  put_is : undone_of t (with_process before process.pid (record caller { pages = with_word caller.pages address status })) ≡ status_put t before process.pid caller child.process.pid
  unfolding undone_of status_put
  put_is = ap (λ (p : Process). broken_as t before (caller_of t) (with_process before process.pid p)) stored_is

  -- the state that is left
  left_is : unix_of (records_held new) (contents_of new) (tapes_of new) (context_of s) s.steps s.traps
      ≡ with_process before process.pid (record caller { pages = with_word caller.pages address status })
  left_is =
      (λ i. unix_of (put.records i) (contents_of new) (tapes_of (put.rest i)) (is_context i) s.steps s.traps)
      ∙ word_left r words (contents_of new) slot process address status context sound is of (put_as slot address status (held_of (begun_by s t)) (held_of new) put) (tapes_of s) s.steps s.traps

  pub word_alone : pid_of t ≡ Some process.pid → call_of_trap t caller ≡ Some 10 → IsBrokenFrom t (unix_at s) (unix_left_at new)
  word_alone pid waits =
      let b = begun_by s t in
      let now_head : (records_held new).head ≡ Some head = ap (λ (r : Records). r.head) put.records ∙ is_head in
      let left : unix_left_at new ≡ status_put t before process.pid caller child.process.pid =
      left_at b new b.tty0 b.tty1 (by_rest b new b.tty0 b.tty1 put.rest) put.rest
      ∙ (undone_with s t may due slot (records_held new) (contents_of new) (tapes_of new) head now_head is_head ∙ (ap (undone_of t) left_is ∙ put_is)) in
      subst (λ (u : Unix). IsBrokenFrom t u (unix_left_at new)) before_is (IsStatusPut process.pid caller child.process.pid (stores pid waits) left)

-- only a call, or a further piece of one, stores a word
module _ (s : PlantState) (slot address status : ℕ) (items : List PatchItem) (new : PlantState) where
  of_entry : (pid : ℕ) (may : MayTrap s (trap.Entry pid)) (due : IsDue s (trap.Entry pid)) → IsPlanOf (begun_by s (trap.Entry pid)) (trap.Entry pid) slot (PlanPut address status items)
      → IsWordPut (held_of (begun_by s (trap.Entry pid))) (held_of new) slot address status → IsBrokenFrom (trap.Entry pid) (unix_at s) (unix_left_at new)
  unfolding planned_call
  of_entry pid may due is put =
      let (own, same) = is.has.seat in
      let context = InUser is.process.pid s.slice s.bank in
      let in_context : context_of s ≡ context = rw due.mode.0 (ap (λ (p : ℕ). InUser p s.slice s.bank) (due.mode.1 ∙ sym same)) in
      let found = call_taken (records_held s) (pages_of (records_held s) (words_of s.memory) slot is.process)
      slot (now_of (begun_by s (trap.Entry pid))).trap is.head (saved_process is.process s.bank) address status items (register s.bank.regs 17) (sym is.planned) in
      word_alone s (trap.Entry pid) may due slot is.head is.is_head is.process own context refl in_context address status (now_of (begun_by s (trap.Entry pid))).trap found.1 new put
      (ap (λ (p : ℕ). Some p) (sym same)) (ap (λ (n : ℕ). Some n) found.0)

  of_piece : (pid : ℕ) (may : MayTrap s (trap.Piece pid)) (due : IsDue s (trap.Piece pid)) → IsPlanOf (begun_by s (trap.Piece pid)) (trap.Piece pid) slot (PlanPut address status items)
      → IsWordPut (held_of (begun_by s (trap.Piece pid))) (held_of new) slot address status → IsBrokenFrom (trap.Piece pid) (unix_at s) (unix_left_at new)
  unfolding planned_piece process_of
  of_piece pid may due is put =
      let (own, same) = is.has.seat in
      let in_context : context_of s ≡ InKernel = rw due.mode refl in
      let found = piece_taken (records_held s) (pages_of (records_held s) (words_of s.memory) slot is.process)
      slot (now_of (begun_by s (trap.Piece pid))).trap is.head is.process address status items (sym is.planned) in
      let in_call : (is.process.state == 2) ≡ true = let state = is.has.suits in grind (arith, nat_tests, state) in
      word_alone s (trap.Piece pid) may due slot is.head is.is_head is.process own InKernel tt in_context address status (now_of (begun_by s (trap.Piece pid))).trap found.1 new put
      (ap (λ (p : ℕ). Some p) (sym same)) (rw in_call (ap (λ (n : ℕ). Some n) found.0))

pub status_left : (s : PlantState) (t : Trap) (may : MayTrap s t) (due : IsDue s t) (slot address status : ℕ) (items : List PatchItem) (new : PlantState)
    → IsPlanOf (begun_by s t) t slot (PlanPut address status items) → IsWordPut (held_of (begun_by s t)) (held_of new) slot address status
    → IsBrokenFrom t (unix_at s) (unix_left_at new)
status_left s (trap.Entry pid) may due slot address status items new is put = of_entry s slot address status items new pid may due is put
status_left s (trap.Piece pid) may due slot address status items new is put = of_piece s slot address status items new pid may due is put
status_left s (trap.Fault pid cause) may due slot address status items new is put = absurd (cc is.planned)
status_left s (trap.Slice pid) may due slot address status items new is put = absurd (cc is.planned)
status_left s (trap.Signal pid signal) may due slot address status items new is put = absurd (cc is.planned)
status_left s trap.Idle may due slot address status items new is put = absurd (cc is.planned)
status_left s (trap.Closing (Some pid)) may due slot address status items new is put = absurd (cc is.planned)
status_left s (trap.Closing None) may due slot address status items new is put = absurd (cc is.planned)
