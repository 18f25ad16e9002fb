-- Each plan of a trap ends it.
use Rattle.std.proofs.Common.{◌≡◌, ◌∙◌, ◌⊎◌, ◌==◌, ◌+◌, ◌<◌, ◌≤◌, ℕ, nat_lt, true, List, [], ◌∷◌, length, Option, Some, None, IfSome, inl, inr, refl, sym, ap, subst, arith}
use Rattle.std.proofs.lemmas.Bool.{cases_Bool}
use Rattle.std.proofs.lemmas.Bool.Decides.{nat_tests}
use Rattle.std.proofs.lemmas.List.Elements.{All-cons, All-nil}
use Rattle.ow_base.specs.Sv32.{WordMap}
use Rattle.ow_base.specs.Words.{updated}
use Rattle.ow_base.specs.UserStep.{register}
use Rattle.ow_base.specs.declared.machine.Bank.{Bank}
use Rattle.record_layouts.proofs.At.{complete_with, values_with}
use Rattle.record_layouts.specs.declared.head.HeadRec.{HeadRec}
use Rattle.record_layouts.specs.declared.proc.ProcRec.{ProcRec}
use Rattle.record_layouts.specs.declared.sig.SigRec.{SigRec}
use Rattle.record_layouts.specs.declared.patch.PatchItem.{PatchItem}
use Rattle.record_layouts.specs.declared.places.RecordId.TheVariants as id
use Rattle.record_layouts.specs.declared.patch.AnyRec.TheVariants as any
use Rattle.record_layouts.specs.Held.{Records, with_items}
use Rattle.record_layouts.specs.Pages.{live_one, pages_of}
use Rattle.record_layouts.specs.Spelling.{IsStatus}
use Rattle.record_layouts.specs.Head.{FitsHead}
use Rattle.record_layouts.specs.Decode.{next_by}
use Rattle.record_layouts.specs.Sound.{AreInBuiltCalls, AreNumbered, AreSound, IsIn}
use Rattle.process_table.specs.Choosing.{next_signal}
use Rattle.process_table.specs.Meaning.{KeepDescriptors}
use Rattle.process_table.specs.Patches.{answered_process, bank_of, ended_exit, ended_items, ended_process, fork_items, forked_exit, forked_head, forked_process, forked_signals, free_process, handler_of, head_item, in_handler, interrupted, process_item, saved_items, saved_process, signal_items, signalled_process, wait_items, without_signal}
use Rattle.process_table.proofs.Descriptors.{end_keeps, save_keeps, signal_keeps}
use Rattle.process_table.proofs.EndedSound.{ended_sound, where_held}
use Rattle.process_table.proofs.Endings.{ended_are}
use Rattle.process_table.proofs.Kept.{AllWere, calls_stay, kin_itself, mapped_stay}
use Rattle.process_table.proofs.Running.{signal_range}
use Rattle.process_table.proofs.Saving.{saved_sound}
use Rattle.process_table.proofs.Signalling.{signal_sound}
use Rattle.syscalls.specs.Done.{KeepsSound}
use Rattle.syscalls.specs.Planned.{Planned, PlanOnce, caller_with, items_in, items_of, planned_call, planned_number, planned_of_call, planned_piece}
use Rattle.syscalls.proofs.KeptSound.{call_keeps, piece_keeps}
use Rattle.syscalls.proofs.WaitPlan.{HasEnded}
use Rattle.syscalls.proofs.Planning.{IsServedAs, call_keeps_descriptors, number_items, piece_items, piece_keeps_descriptors}
use Rattle.kernel_traps.specs.Carrying.{AreOfProcesses, is_of_process}
use Rattle.kernel_traps.specs.Ending.{EndsTrap}
use Rattle.kernel_traps.specs.Traps.{served_items}

-- where a process becomes another that is in no other call than a write or a wait, all are so still
abbrev IsBuilt : ProcRec → Type 0
IsBuilt process = (process.call ≡ 2) ⊎ (process.call ≡ 10)

built_calls_then : (r : Records) (slot : ℕ) (after : ProcRec) (new : Records) → AreInBuiltCalls r → (after.state ≡ 2 → IsBuilt after)
    → new.procs ≡ updated r.procs slot (Some after) → AreInBuiltCalls new
built_calls_then r slot after new writes own set = record {
  each = λ place process is in_call.
      elim (where_held r.procs slot place after process (ap (λ (f : ℕ → Option ProcRec). f place) (sym set) ∙ is.there)) [
        | inl here ↦ rw here.1 (own (rw here.1 at in_call))
        | inr before ↦ writes.each place process (record { within = is.within; there = before.1; live = is.live }) in_call
      ];
}

-- the records of the head and of a process, or those of one that ends
pub record AreItems (r : Records) (trap : ℕ) (items : List PatchItem) : Type 0 where
  pub of_processes : AreOfProcesses items
  pub in_built_calls : AreInBuiltCalls (with_items r items)
  pub head : HeadRec
  pub is_head : (with_items r items).head ≡ Some head
  pub served : head.served ≡ trap

-- so many records of the head and of processes
no_more : AreOfProcesses []
no_more = All-nil (λ (item : PatchItem). is_of_process item.rec ≡ true)

one_more : (item : PatchItem) (items : List PatchItem) → is_of_process item.rec ≡ true → AreOfProcesses items → AreOfProcesses (item ∷ items)
one_more item items is rest = All-cons (λ (item : PatchItem). is_of_process item.rec ≡ true) item items is rest

three_of : (one two three : PatchItem) → is_of_process one.rec ≡ true → is_of_process two.rec ≡ true → is_of_process three.rec ≡ true → AreOfProcesses (one ∷ two ∷ three ∷ [])
three_of one two three is is_too is_last = one_more one (two ∷ three ∷ []) is (one_more two (three ∷ []) is_too (one_more three [] is_last no_more))

two_items : (r : Records) (head : HeadRec) (slot trap pid : ℕ) (after : ProcRec) → AreInBuiltCalls r → (after.state ≡ 2 → IsBuilt after)
    → AreItems r trap (head_item head trap pid ∷ process_item slot after ∷ [])
two_items r head slot trap pid after writes own = record {
  of_processes = one_more (head_item head trap pid) (process_item slot after ∷ []) refl (one_more (process_item slot after) [] refl no_more);
  in_built_calls = built_calls_then r slot after (with_items r (head_item head trap pid ∷ process_item slot after ∷ [])) writes own refl;
  head = record head { served = trap; last = pid };
  is_head = refl;
  served = refl;
}

abbrev exit_item : (pid status : ℕ) → PatchItem
exit_item pid status = record { id = id.Exit pid; rec = any.Exit (ended_exit status) }

abbrev signals_item : (slot : ℕ) → SigRec → PatchItem
signals_item slot signals = record { id = id.Sig slot; rec = any.Sig signals }

ended_are_items : (r : Records) (head : HeadRec) (slot : ℕ) (process : ProcRec) (status trap : ℕ) → AreInBuiltCalls r → AreItems r trap (ended_items head slot process status trap)
unfolding ended_items
ended_are_items r head slot process status trap writes = record {
  of_processes = three_of (head_item head trap process.pid) (process_item slot (ended_process process status)) (exit_item process.pid status) refl refl refl;
  in_built_calls = built_calls_then r slot (ended_process process status) (with_items r (ended_items head slot process status trap)) writes (λ s. absurd (omega (arith, s))) refl;
  head = record head { served = trap; last = process.pid };
  is_head = refl;
  served = refl;
}

-- two processes become others that are in no call
both_built : (r : Records) (slot place : ℕ) (one other : ProcRec) (new : Records) → AreInBuiltCalls r → (one.state ≡ 2 → ⊥) → (other.state ≡ 2 → ⊥)
    → new.procs ≡ updated (updated r.procs slot (Some one)) place (Some other) → AreInBuiltCalls new
both_built r slot place one other new writes out out_too set =
    let between : Records = record r { procs = updated r.procs slot (Some one) } in
    built_calls_then between place other new (built_calls_then r slot one between writes (λ s. absurd (out s)) refl) (λ s. absurd (out_too s)) set

-- the records of a fork, and of a child that is taken
fork_are_items : (r : Records) (head : HeadRec) (slot child : ℕ) (process : ProcRec) (signals : SigRec) (trap : ℕ) → AreInBuiltCalls r → AreItems r trap (fork_items head slot child process signals trap)
unfolding fork_items
fork_are_items r head slot child process signals trap writes = record {
  of_processes = one_more (record { id = id.Head; rec = any.Head (forked_head head trap process.pid) })
      (process_item slot (answered_process process head.next) ∷ process_item child (forked_process process head.next)
      ∷ signals_item child (forked_signals signals head.next) ∷ record { id = id.Exit head.next; rec = any.Exit (forked_exit child) } ∷ []) refl
      (one_more (process_item slot (answered_process process head.next))
      (process_item child (forked_process process head.next) ∷ signals_item child (forked_signals signals head.next)
      ∷ record { id = id.Exit head.next; rec = any.Exit (forked_exit child) } ∷ []) refl
      (three_of (process_item child (forked_process process head.next)) (signals_item child (forked_signals signals head.next))
      (record { id = id.Exit head.next; rec = any.Exit (forked_exit child) }) refl refl refl));
  in_built_calls = both_built r slot child (answered_process process head.next) (forked_process process head.next) (with_items r (fork_items head slot child process signals trap)) writes
      (λ s. absurd (omega (arith, s))) (λ s. absurd (omega (arith, s))) refl;
  head = forked_head head trap process.pid;
  is_head = refl;
  served = refl;
}

wait_are_items : (r : Records) (head : HeadRec) (slot : ℕ) (process : ProcRec) (place pid trap : ℕ) → AreInBuiltCalls r → AreItems r trap (wait_items head slot process place pid trap)
unfolding wait_items
wait_are_items r head slot process place pid trap writes = record {
  of_processes = three_of (head_item head trap process.pid) (process_item slot (answered_process process pid)) (process_item place free_process) refl refl refl;
  in_built_calls = both_built r slot place (answered_process process pid) free_process (with_items r (wait_items head slot process place pid trap)) writes
      (λ s. absurd (omega (arith, s))) (λ s. absurd (omega (arith, s))) refl;
  head = record head { served = trap; last = process.pid };
  is_head = refl;
  served = refl;
}

ends_with : (r : Records) (slot trap : ℕ) (process : ProcRec) (plan : Planned) → r.procs slot ≡ Some process → AreItems r trap (items_in plan) → KeepDescriptors r (items_in plan)
    → KeepsSound r slot process plan → EndsTrap r slot trap plan
ends_with r slot trap process plan there items descriptors keeps = record {
  of_processes = items.of_processes;
  process = process;
  there = there;
  keeps_sound = keeps;
  keeps_descriptors = descriptors;
  in_built_calls = items.in_built_calls;
  head = items.head;
  is_head = items.is_head;
  served = items.served;
}

-- a bank is saved, a process ends
pub saved_ends : (r : Records) (head : HeadRec) (slot : ℕ) (process : ProcRec) (bank : Bank) (trap : ℕ) → AreSound r → AreInBuiltCalls r → r.head ≡ Some head → IsIn r slot process
    → process.state ≡ 1 → EndsTrap r slot trap (PlanOnce (saved_items head slot process bank trap))
unfolding saved_items
saved_ends r head slot process bank trap sound writes is_head is out =
    ends_with r slot trap process (PlanOnce (saved_items head slot process bank trap)) is.there
    (two_items r head slot trap process.pid (saved_process process bank) writes (λ s. absurd (omega (arith, s, out))))
    (save_keeps r head slot process bank trap is)
    (saved_sound r head slot process bank trap sound is_head is out)

pub ended_ends : (r : Records) (head : HeadRec) (slot : ℕ) (process : ProcRec) (status trap : ℕ) → AreSound r → AreInBuiltCalls r → r.head ≡ Some head → IsIn r slot process
    → IsStatus status → EndsTrap r slot trap (PlanOnce (ended_items head slot process status trap))
ended_ends r head slot process status trap sound writes is_head is word =
    ends_with r slot trap process (PlanOnce (ended_items head slot process status trap)) is.there (ended_are_items r head slot process status trap writes)
    (end_keeps r head slot process status trap sound is)
    (subst AreSound (sym (ended_are r head slot process status trap)) (ended_sound r head slot process status trap sound is_head is word))

-- a signal goes to a process: it is in no call that it was not in before
in_handler_out : (process : ProcRec) (signal handler : ℕ) → (in_handler (interrupted process) signal handler).state ≡ 2 → IsBuilt (in_handler (interrupted process) signal handler)
in_handler_out process signal handler in_call = elim (cases_Bool (process.state == 2)) [
  | inl calls ↦ absurd (omega (arith, rw calls at in_call))
  | inr other ↦ absurd (let state : process.state ≡ 2 = rw other at in_call in grind (arith, nat_tests, other, state))
]

signalled_in : (process : ProcRec) (signal handler : ℕ) → (process.state ≡ 2 → IsBuilt process)
    → (signalled_process process signal handler).state ≡ 2 → IsBuilt (signalled_process process signal handler)
signalled_in process signal handler own = elim (cases_Bool (handler == 1)) [
  | inl dropped ↦ rw dropped own
  | inr runs ↦ rw runs (in_handler_out process signal handler)
]

signal_are_items : (r : Records) (head : HeadRec) (slot : ℕ) (process : ProcRec) (signals : SigRec) (signal trap : ℕ) → AreInBuiltCalls r → IsIn r slot process
    → AreItems r trap (signal_items head slot process signals signal trap)
unfolding signal_items
signal_are_items r head slot process signals signal trap writes is = elim (cases_Bool (handler_of signals signal == 0)) [
  | inl ends ↦ rw ends (ended_are_items r head slot process (0x100 + signal) trap writes)
  | inr goes_on ↦ rw goes_on (record {
    of_processes = three_of (head_item head trap process.pid) (process_item slot (signalled_process process signal (handler_of signals signal))) (signals_item slot (without_signal signals signal)) refl refl refl;
    in_built_calls = built_calls_then r slot (signalled_process process signal (handler_of signals signal))
        (with_items r (head_item head trap process.pid ∷ process_item slot (signalled_process process signal (handler_of signals signal)) ∷ signals_item slot (without_signal signals signal) ∷ [])) writes (signalled_in process signal (handler_of signals signal) (writes.each slot process is)) refl;
    head = record head { served = trap; last = process.pid };
    is_head = refl;
    served = refl;
  })
]

pub signal_ends_trap : (r : Records) (head : HeadRec) (slot : ℕ) (process : ProcRec) (signals : SigRec) (signal trap : ℕ) → AreSound r → AreInBuiltCalls r → r.head ≡ Some head
    → IsIn r slot process → r.sigs slot ≡ Some signals → next_signal process signals ≡ Some signal → EndsTrap r slot trap (PlanOnce (signal_items head slot process signals signal trap))
signal_ends_trap r head slot process signals signal trap sound writes is_head is there next =
    let range = signal_range process signals signal next in
    ends_with r slot trap process (PlanOnce (signal_items head slot process signals signal trap)) is.there (signal_are_items r head slot process signals signal trap writes is)
    (signal_keeps r head slot process signals signal trap sound is_head is there)
    (signal_sound r head slot process signals signal trap sound is_head is there range.0 range.1)

-- the head alone says that a trap is served
abbrev pub served_records : Records → HeadRec → (trap : ℕ) → Records
served_records r head trap = record r { head = Some (record head { served = trap }) }

served_were : (r : Records) (head : HeadRec) (trap : ℕ) → AllWere r (Some (record head { served = trap })) r.procs r.sigs r.exits
served_were r head trap = record {
  was = λ slot process is. record { old = process; is = record { within = is.within; there = is.there; live = is.live }; kin = kin_itself process is.live };
}

served_sound : (r : Records) (head : HeadRec) (trap : ℕ) → AreSound r → r.head ≡ Some head → AreSound (served_records r head trap)
served_sound r head trap sound is_head =
    let next : next_by r.head ≡ head.next = ap next_by is_head in
    let fits : FitsHead head = subst (λ (held : Option HeadRec). IfSome held FitsHead) is_head (sound.values id.Head) in
    let held : AreNumbered r = sound.numbered in
    let were = served_were r head trap in
    record {
      complete = complete_with r id.Head (any.Head (record head { served = trap })) sound.complete tt;
      values = values_with r id.Head (any.Head (record head { served = trap })) sound.values tt
          (record { layout = fits.layout; next_from = fits.next_from; next_to = fits.next_to; hand = fits.hand });
      numbered = record {
        used = λ pid from to. held.used pid from to ∙ ap (λ (n : ℕ). nat_lt pid n) next;
        one_slot = held.one_slot;
        exit = λ slot process is. held.exit slot process (record { within = is.within; there = is.there; live = is.live });
        process = λ pid slot exit.
            let found = held.process pid slot exit in
            (found.0, record { within = found.1.within; there = found.1.there; live = found.1.live }, found.2);
        signals = λ slot process is. held.signals slot process (record { within = is.within; there = is.there; live = is.live });
        ended = held.ended;
        one_ended = held.one_ended;
        parents = λ slot process there. subst (λ (n : ℕ). process.parent < n) next (held.parents slot process there);
      };
      in_calls = calls_stay r (Some (record head { served = trap })) r.procs r.sigs r.exits were sound.in_calls;
      mapped = mapped_stay r (Some (record head { served = trap })) r.procs r.sigs r.exits were sound.mapped;
    }

pub served_ends : (r : Records) (head : HeadRec) (slot trap : ℕ) (process : ProcRec) → AreSound r → AreInBuiltCalls r → r.head ≡ Some head → r.procs slot ≡ Some process → EndsTrap r slot trap (PlanOnce (served_items head trap))
served_ends r head slot trap process sound writes is_head there = record {
  of_processes = one_more (head_item head trap head.last) [] refl no_more;
  process = process;
  there = there;
  keeps_sound = served_sound r head trap sound is_head;
  keeps_descriptors = record {
    descs = refl;
    was = λ slot process is. record { place = slot; before = process; is = record { within = is.within; there = is.there; live = is.live }; descs = refl; seat = inl refl };
  };
  in_built_calls = record { each = λ slot process is. writes.each slot process (record { within = is.within; there = is.there; live = is.live }) };
  head = record head { served = trap };
  is_head = refl;
  served = refl;
}

-- what a call or a further piece of one asks for: the process ends, or becomes another
module _ (r : Records) (head : HeadRec) (slot trap : ℕ) (process : ProcRec) (bank : Bank) (is : IsIn r slot process) (writes : AreInBuiltCalls r) where
  ends_so : (status : ℕ) → status ≤ 0xff → AreItems r trap (ended_items head slot (saved_process process bank) status trap)
  ends_so status small = ended_are_items r head slot (saved_process process bank) status trap writes

  still_built : (after : ProcRec) → after.call ≡ process.call → IsBuilt process → IsBuilt after
  still_built after same (inl write) = inl (same ∙ write)
  still_built after same (inr wait) = inr (same ∙ wait)

  in_built : (after : ProcRec) → (after.call ≡ 2) ⊎ (after.call ≡ 10) ⊎ ((process.state ≡ 2) × (after.call ≡ process.call)) → IsBuilt after
  in_built after (inl write) = inl write
  in_built after (inr (inl wait)) = inr wait
  in_built after (inr (inr (state, same))) = still_built after same (writes.each slot process is state)

  becomes : (after : ProcRec) → IsServedAs process after → AreItems r trap (items_of (caller_with slot trap head (saved_process process bank)) after)
  becomes after served = two_items r head slot trap after.pid after writes (λ state. in_built after (served.call state))

  forks_so : (child : ℕ) (signals : SigRec) → live_one (r.procs child) ≡ None → AreItems r trap (fork_items head slot child (saved_process process bank) signals trap)
  forks_so child signals none = fork_are_items r head slot child (saved_process process bank) signals trap writes

  takes_so : (place : ℕ) (ended : HasEnded r place) → AreItems r trap (wait_items head slot (saved_process process bank) place ended.child.pid trap)
  takes_so place ended = wait_are_items r head slot (saved_process process bank) place ended.child.pid trap writes

pub call_ends : (r : Records) (words : WordMap) (slot trap : ℕ) (head : HeadRec) (process : ProcRec) (bank : Bank) → AreSound r → AreInBuiltCalls r → r.head ≡ Some head → IsIn r slot process
    → process.state ≡ 1 → length process.descs ≡ 8 → EndsTrap r slot trap (planned_call r words slot trap head process bank)
unfolding planned_call
call_ends r words slot trap head process bank sound writes is_head is out eight =
    ends_with r slot trap process (planned_number r (pages_of r words slot process) (caller_with slot trap head (saved_process process bank)) (register bank.regs 17)) is.there
    (number_items (AreItems r trap) r head slot trap process bank is (pages_of r words slot process)
    (ends_so r head slot trap process bank is writes) (becomes r head slot trap process bank is writes) (forks_so r head slot trap process bank is writes)
    (takes_so r head slot trap process bank is writes) (register bank.regs 17))
    (call_keeps_descriptors r words slot trap head process bank sound is)
    (call_keeps r words slot trap head process bank sound is_head is out eight)

pub piece_ends : (r : Records) (words : WordMap) (slot trap : ℕ) (head : HeadRec) (process : ProcRec) → AreSound r → AreInBuiltCalls r → r.head ≡ Some head → IsIn r slot process
    → process.state ≡ 2 → EndsTrap r slot trap (planned_piece r words slot trap head process)
unfolding planned_piece
piece_ends r words slot trap head process sound writes is_head is state =
    ends_with r slot trap process (planned_of_call r (pages_of r words slot process) (caller_with slot trap head process)) is.there
    (piece_items (AreItems r trap) r head slot trap process (bank_of process) is (pages_of r words slot process)
    (ends_so r head slot trap process (bank_of process) is writes) (becomes r head slot trap process (bank_of process) is writes)
    (forks_so r head slot trap process (bank_of process) is writes) (takes_so r head slot trap process (bank_of process) is writes))
    (piece_keeps_descriptors r words slot trap head process sound is)
    (piece_keeps r words slot trap head process sound is_head is state)
