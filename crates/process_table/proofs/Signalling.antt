-- A signal that goes to a process: its records stand for what the Unix makes of it.
use Rattle.std.proofs.Common.{◌≡◌, ◌≢◌, ◌==◌, if◌then◌else◌, ℕ, ◌+◌, ◌-◌, ◌*◌, ◌/◌, ◌%◌, ◌^◌, ◌<◌, ◌≤◌, true, false, nat_lt, List, map, Option, Some, None, IfSome, slice_index, bit_and, inl, inr, refl, sym, ap, subst, ◌∙◌, arith}
use Rattle.std.specs.Int.{bit_not, bit_at, w32}
use Rattle.std.proofs.lemmas.Nat.{one_shl, and_le_l}
use Rattle.std.proofs.lemmas.Nat.Bits.{bit_at_clear_same, bit_at_clear_other, bit_at_above}
use Rattle.std.proofs.lemmas.Bool.{cases_Bool}
use Rattle.std.proofs.lemmas.Bool.Decides.{nat_tests}
use Rattle.ow_base.specs.Sv32.{WordMap}
use Rattle.ow_base.specs.Words.{updated}
use Rattle.ow_base.specs.declared.machine.Bank.{Bank}
use Rattle.record_layouts.specs.declared.places.RecordId.TheVariants as id
use Rattle.record_layouts.specs.declared.head.HeadRec.{HeadRec}
use Rattle.record_layouts.specs.declared.proc.ProcRec.{ProcRec}
use Rattle.record_layouts.specs.declared.sig.SigRec.{SigRec}
use Rattle.record_layouts.specs.Unix.State.{Unix, Process, CallState, Out, In}
use Rattle.record_layouts.specs.Unix.Calls.{trapped, with_process}
use Rattle.record_layouts.specs.Unix.Signals.{signalled, signalled_by, without_signal as unix_without, entered_in_handler, interrupted_in}
use Rattle.record_layouts.specs.Held.{Records, with_items}
use Rattle.record_layouts.specs.Pages.{is_live, pages_of}
use Rattle.record_layouts.specs.Proc.{FitsProc, FitsLive}
use Rattle.record_layouts.specs.Sig.{FitsSig}
use Rattle.record_layouts.specs.Spelling.{IsStatus}
use Rattle.record_layouts.specs.Decode.{InKernel, call_of, descriptor_of, is_pending, handlers_of, handler_save_of, procedure_save_of, process_of, processes_of, unix_of}
use Rattle.record_layouts.specs.Sound.{IsIn, AreSound}
use Rattle.process_table.specs.Patches.{bank_of, ended_items, signal_items, handler_of, in_handler, interrupted, signalled_process, without_signal}
use Rattle.process_table.proofs.Ended.{live_fits}
use Rattle.process_table.proofs.Pending.{fewer_fit}
use Rattle.process_table.proofs.Kept.{IsKin, set_here, set_other, kin_itself, same_regions}
use Rattle.process_table.proofs.Seats.{found_in}
use Rattle.process_table.proofs.Regions.{SameRegions, pages_same, pages_stay}
use Rattle.process_table.proofs.Endings.{served, ended_are}
use Rattle.process_table.proofs.EndedSound.{held_by_place, filled_by_place, ended_sound}
use Rattle.process_table.proofs.EndedUnix.{ended_unix}
use Rattle.process_table.proofs.Changes.{IsChange, AreFor, changed_records, change_sound}
use Rattle.process_table.proofs.ChangedUnix.{changed_unix}

without_other : (n k s : ℕ) → k < 16 → n < 2 ^ 16 → s ≢ k → bit_at (bit_and n (bit_not w32 (2 ^ k))) s ≡ bit_at n s
without_other n k s small few apart = elim (cases_Bool (nat_lt s 32)) [
  | inl low ↦
      let within : s < 32 = grind (arith, nat_tests, low) in
      let shifted : 1 * 2 ^ k % 2 ^ 32 ≡ 2 ^ k = one_shl k 32 (omega arith) in
      subst (λ (b : ℕ). bit_at (bit_and n (bit_not w32 b)) s ≡ bit_at n s) shifted (bit_at_clear_other w32 n k (omega arith) s within apart)
  | inr high ↦
      let above : 16 ≤ s = grind (arith, nat_tests, high) in
      let less : bit_and n (bit_not w32 (2 ^ k)) < 2 ^ 16 = omega (arith, and_le_l n (bit_not w32 (2 ^ k)), few) in
      bit_at_above (bit_and n (bit_not w32 (2 ^ k))) 16 s less above ∙ sym (bit_at_above n 16 s few above)
]

-- the bits of pending signals without one
without_bit : (n k s : ℕ) → k < 16 → n < 2 ^ 16 → bit_at (bit_and n (bit_not w32 (2 ^ k))) s ≡ (if s == k then 0 else bit_at n s)
without_bit n k s small few =
    let shifted : 1 * 2 ^ k % 2 ^ 32 ≡ 2 ^ k = one_shl k 32 (omega arith) in
    elim (cases_Bool (s == k)) [
      | inl same ↦
          let equal : s ≡ k = grind (arith, nat_tests, same) in
          let cleared : bit_at (bit_and n (bit_not w32 (2 ^ k))) k ≡ 0 = subst (λ (b : ℕ). bit_at (bit_and n (bit_not w32 b)) k ≡ 0) shifted (bit_at_clear_same w32 n k (omega arith)) in
          rw same (subst (λ (j : ℕ). bit_at (bit_and n (bit_not w32 (2 ^ k))) j ≡ 0) (sym equal) cleared)
      | inr other ↦
          let apart : s ≢ k = λ equal. let yes : (s == k) ≡ true = grind (arith, nat_tests, equal) in absurd (cc (sym other ∙ yes)) in
          rw other (without_other n k s small few apart)
    ]

pending_now : (signals : SigRec) (signal s : ℕ) → FitsSig signals → signal < 16
    → is_pending (Some (without_signal signals signal)) s ≡ updated (is_pending (Some signals)) signal false s
pending_now signals signal s fits small = elim (cases_Bool (s == signal)) [
  | inl same ↦
      let gone : bit_at (bit_and signals.pending (bit_not w32 (2 ^ signal))) s ≡ 0 = without_bit signals.pending signal s small fits.highest ∙ rw same refl in
      rw same (ap (λ (b : ℕ). b == 1) gone)
  | inr other ↦
      let stays : bit_at (bit_and signals.pending (bit_not w32 (2 ^ signal))) s ≡ bit_at signals.pending s = without_bit signals.pending signal s small fits.highest ∙ rw other refl in
      rw other (ap (λ (b : ℕ). b == 1) stays)
]

pub signals_for : (r : Records) (slot : ℕ) (process : ProcRec) (signals : SigRec) (signal : ℕ) → AreSound r → IsIn r slot process → r.sigs slot ≡ Some signals
    → AreFor r slot process.pid (updated r.sigs slot (Some (without_signal signals signal)))
signals_for r slot process signals signal sound is there =
    let held = sound.numbered.signals slot process is in
    let both : Some held.0 ≡ Some signals = sym held.1 ∙ there in
    let same : held.0 ≡ signals = cc in
    let pid : signals.pid ≡ process.pid = subst (λ (s : SigRec). s.pid ≡ process.pid) same held.2 in
    let fits : FitsSig signals = subst (λ (o : Option SigRec). IfSome o FitsSig) there (sound.values (id.Sig slot)) in
    record {
      here = (without_signal signals signal, set_here r.sigs slot (Some (without_signal signals signal)), pid);
      elsewhere = λ k apart. set_other r.sigs slot (Some (without_signal signals signal)) k apart;
      values = held_by_place (λ (o : Option SigRec). IfSome o FitsSig) r.sigs slot (Some (without_signal signals signal)) (fewer_fit signals (bit_not w32 (2 ^ signal)) fits) (λ k. sound.values (id.Sig k));
      complete = λ k within. filled_by_place r.sigs slot (without_signal signals signal) k (sound.complete (id.Sig k) within);
    }

-- the process with its call ended, outside a call
stopped_kin : (process : ProcRec) (signal handler : ℕ) → is_live process ≡ true → IsKin process (in_handler (interrupted process) signal handler)
stopped_kin process signal handler live = elim (cases_Bool (process.state == 2)) [
  | inl call ↦ rw call (record {
    pid = refl;
    parent = refl;
    descs = refl;
    regions = record { live = refl; lives = live; code = refl; values = refl; brk = refl };
    call = λ in_call. absurd (omega (arith, in_call));
  })
  | inr out ↦
      let one : process.state ≡ 1 = grind (arith, nat_tests, out, live) in
      rw out (record {
        pid = refl;
        parent = refl;
        descs = refl;
        regions = record { live = live; lives = live; code = refl; values = refl; brk = refl };
        call = λ in_call. absurd (omega (arith, one, in_call));
      })
]

signalled_kin : (process : ProcRec) (signal handler : ℕ) → is_live process ≡ true → IsKin process (signalled_process process signal handler)
signalled_kin process signal handler live = elim (cases_Bool (handler == 1)) [
  | inl dropped ↦ rw dropped (kin_itself process live)
  | inr runs ↦ rw runs (stopped_kin process signal handler live)
]

stopped_fits : (process : ProcRec) (signal handler : ℕ) → FitsProc process → is_live process ≡ true → FitsProc (in_handler (interrupted process) signal handler)
stopped_fits process signal handler fits live =
    let held : FitsLive process = live_fits process fits live in
    elim (cases_Bool (process.state == 2)) [
      | inl call ↦ rw call (record {
        state = omega arith;
        free = λ free. absurd (omega (arith, free));
        live = λ lives. record { pid = held.pid; parent = held.parent; code_pages = held.code_pages; data_pages = held.data_pages; heap_end = held.heap_end; flags = omega (arith, held.flags); status = held.status; descs = held.descs };
        no_call = λ out. refl;
        none_done = λ out. refl;
        ended = λ ended. absurd (omega (arith, ended));
      })
      | inr out ↦
          let one : process.state ≡ 1 = grind (arith, nat_tests, out, live) in
          rw out (record {
            state = fits.state;
            free = λ free. absurd (omega (arith, one, free));
            live = λ lives. record { pid = held.pid; parent = held.parent; code_pages = held.code_pages; data_pages = held.data_pages; heap_end = held.heap_end; flags = omega (arith, held.flags); status = held.status; descs = held.descs };
            no_call = fits.no_call;
            none_done = fits.none_done;
            ended = λ ended. absurd (omega (arith, one, ended));
          })
    ]

signalled_fits : (process : ProcRec) (signal handler : ℕ) → FitsProc process → is_live process ≡ true → FitsProc (signalled_process process signal handler)
signalled_fits process signal handler fits live = elim (cases_Bool (handler == 1)) [
  | inl dropped ↦ rw dropped fits
  | inr runs ↦ rw runs (stopped_fits process signal handler fits live)
]

pub signal_change : (r : Records) (head : HeadRec) (slot : ℕ) (process : ProcRec) (signals : SigRec) (signal handler : ℕ) → AreSound r → r.head ≡ Some head → IsIn r slot process → r.sigs slot ≡ Some signals
    → IsChange r head slot process (signalled_process process signal handler) (updated r.sigs slot (Some (without_signal signals signal)))
signal_change r head slot process signals signal handler sound is_head is there =
    let fits : FitsProc process = subst (λ (p : Option ProcRec). IfSome p FitsProc) is.there (sound.values (id.Proc slot)) in
    record {
      is_head = is_head;
      is = is;
      kin = signalled_kin process signal handler is.live;
      fits = signalled_fits process signal handler fits is.live;
      signals = signals_for r slot process signals signal sound is there;
    }

-- the process that the changed record is, field by field
record IsMade (r : Records) (words : WordMap) (slot : ℕ) (process new : ProcRec) (signals : SigRec) (signal : ℕ) (made : Process) : Type 0 where
  pub regions : SameRegions new process
  pub call : call_of new ≡ made.call
  pub bank : bank_of new ≡ made.bank
  pub pages : pages_of r words slot process ≡ made.pages
  pub brk : new.brk ≡ made.brk
  pub descriptors : new.descs ≡ process.descs
  pub same_descriptors : map descriptor_of process.descs ≡ made.descriptors
  pub handlers : signals.handlers ≡ made.handlers
  pub pending : (s : ℕ) → updated (is_pending (Some signals)) signal false s ≡ made.pending s
  pub handler_save : handler_save_of new ≡ made.handler_save
  pub procedure : new.procedure ≡ made.procedure
  pub procedure_save : procedure_save_of new ≡ made.procedure_save
  pub parent : new.parent ≡ made.parent

made_is : (r : Records) (head : HeadRec) (words : WordMap) (slot : ℕ) (process new : ProcRec) (signals : SigRec) (signal trap : ℕ) (made : Process) → FitsSig signals → signal < 16
    → IsMade r words slot process new signals signal made
    → made ≡ process_of (changed_records r head slot process new (updated r.sigs slot (Some (without_signal signals signal))) trap) words slot new
unfolding process_of
made_is r head words slot process new signals signal trap made fits small is =
    let sigs = updated r.sigs slot (Some (without_signal signals signal)) in
    let now = changed_records r head slot process new sigs trap in
    let here : sigs slot ≡ Some (without_signal signals signal) = set_here r.sigs slot (Some (without_signal signals signal)) in
    let pages : pages_of now words slot new ≡ made.pages =
    pages_stay r (Some (served head trap process.pid)) (updated r.procs slot (Some new)) sigs r.exits words slot new ∙ (pages_same r words slot new process is.regions ∙ is.pages) in
    let handlers : handlers_of (sigs slot) ≡ made.handlers = ap handlers_of here ∙ is.handlers in
    let pending : is_pending (sigs slot) ≡ made.pending = ap is_pending here ∙ (λ i s. (pending_now signals signal s fits small ∙ is.pending s) i) in
    let descriptors : map descriptor_of new.descs ≡ made.descriptors = ap (map descriptor_of) is.descriptors ∙ is.same_descriptors in
    sym (λ i. record {
      call = is.call i;
      bank = is.bank i;
      pages = pages i;
      brk = is.brk i;
      descriptors = descriptors i;
      handlers = handlers i;
      pending = pending i;
      handler_save = is.handler_save i;
      procedure = is.procedure i;
      procedure_save = is.procedure_save i;
      parent = is.parent i;
    })

-- a signal that is dropped
dropped_is : (r : Records) (words : WordMap) (slot : ℕ) (process : ProcRec) (signals : SigRec) (signal : ℕ) → is_live process ≡ true → r.sigs slot ≡ Some signals
    → IsMade r words slot process process signals signal (unix_without (process_of r words slot process) signal)
unfolding process_of
dropped_is r words slot process signals signal live there = record {
  regions = same_regions process live;
  call = refl;
  bank = refl;
  pages = refl;
  brk = refl;
  descriptors = refl;
  same_descriptors = refl;
  handlers = ap handlers_of (sym there);
  pending = λ s. ap (λ (o : Option SigRec). updated (is_pending o) signal false s) (sym there);
  handler_save = refl;
  procedure = refl;
  procedure_save = refl;
  parent = refl;
}

-- the flags once a handler runs
handler_runs : (flags : ℕ) → ((flags / 2 * 2 + 1) % 2 == 1) ≡ true
handler_runs flags = let one : (flags / 2 * 2 + 1) % 2 ≡ 1 = omega arith in grind (arith, nat_tests, one)

procedure_stays : (flags : ℕ) → (flags / 2 * 2 + 1) / 2 ≡ flags / 2
procedure_stays flags = omega arith

saves_stay : (flags : ℕ) (save : Bank × ℕ) → (if (flags / 2 * 2 + 1) / 2 == 1 then Some save else None) ≡ (if flags / 2 == 1 then Some save else None)
saves_stay flags save = ap (λ (n : ℕ). if n == 1 then Some save else None) (procedure_stays flags)

-- a handler that begins
begun_is : (r : Records) (words : WordMap) (slot : ℕ) (process : ProcRec) (signals : SigRec) (signal handler : ℕ) → is_live process ≡ true → r.sigs slot ≡ Some signals
    → IsMade r words slot process (in_handler (interrupted process) signal handler) signals signal
    (entered_in_handler (interrupted_in (unix_without (process_of r words slot process) signal) (call_of process)) signal handler)
unfolding process_of
begun_is r words slot process signals signal handler live there =
    let handlers : signals.handlers ≡ handlers_of (r.sigs slot) = ap handlers_of (sym there) in
    let pending : (s : ℕ) → updated (is_pending (Some signals)) signal false s ≡ updated (is_pending (r.sigs slot)) signal false s =
    λ s. ap (λ (o : Option SigRec). updated (is_pending o) signal false s) (sym there) in
    elim (cases_Bool (process.state == 2)) [
      | inl call ↦ rw call (record {
        regions = record { live = refl; lives = live; code = refl; values = refl; brk = refl };
        call = refl;
        bank = refl;
        pages = refl;
        brk = refl;
        descriptors = refl;
        same_descriptors = refl;
        handlers = handlers;
        pending = pending;
        handler_save = rw (handler_runs process.flags) refl;
        procedure = refl;
        procedure_save = saves_stay process.flags (process.crash_save, process.mask);
        parent = refl;
      })
      | inr out ↦ rw out (record {
        regions = record { live = live; lives = live; code = refl; values = refl; brk = refl };
        call = rw out refl;
        bank = refl;
        pages = refl;
        brk = refl;
        descriptors = refl;
        same_descriptors = refl;
        handlers = handlers;
        pending = pending;
        handler_save = rw (handler_runs process.flags) refl;
        procedure = refl;
        procedure_save = saves_stay process.flags (process.crash_save, process.mask);
        parent = refl;
      })
    ]

-- the process that a signal leaves, where its handler does not end it
abbrev left_by : Process → (signal handler : ℕ) → Process
left_by p signal handler = if handler == 1 then unix_without p signal else entered_in_handler (interrupted_in (unix_without p signal) p.call) signal handler

left_is : (r : Records) (words : WordMap) (slot : ℕ) (process : ProcRec) (signals : SigRec) (signal handler : ℕ) → is_live process ≡ true → r.sigs slot ≡ Some signals
    → IsMade r words slot process (signalled_process process signal handler) signals signal (left_by (process_of r words slot process) signal handler)
unfolding process_of
left_is r words slot process signals signal handler live there = elim (cases_Bool (handler == 1)) [
  | inl dropped ↦ rw dropped (dropped_is r words slot process signals signal live there)
  | inr runs ↦ rw runs (begun_is r words slot process signals signal handler live there)
]

-- a handler that does not end the process
pub signal_are : (r : Records) (head : HeadRec) (slot : ℕ) (process : ProcRec) (signals : SigRec) (signal trap : ℕ) → (handler_of signals signal == 0) ≡ false
    → with_items r (signal_items head slot process signals signal trap)
    ≡ changed_records r head slot process (signalled_process process signal (handler_of signals signal)) (updated r.sigs slot (Some (without_signal signals signal))) trap
unfolding signal_items
signal_are r head slot process signals signal trap goes_on = rw goes_on refl

pub signal_ends : (r : Records) (head : HeadRec) (slot : ℕ) (process : ProcRec) (signals : SigRec) (signal trap : ℕ) → (handler_of signals signal == 0) ≡ true
    → with_items r (signal_items head slot process signals signal trap) ≡ with_items r (ended_items head slot process (0x100 + signal) trap)
unfolding signal_items
signal_ends r head slot process signals signal trap ends = rw ends refl

killed_status : (signal : ℕ) → 1 ≤ signal → signal < 16 → IsStatus (0x100 + signal)
killed_status signal from to = inr (inl (omega arith, omega arith))

pub signal_sound : (r : Records) (head : HeadRec) (slot : ℕ) (process : ProcRec) (signals : SigRec) (signal trap : ℕ) → AreSound r → r.head ≡ Some head → IsIn r slot process
    → r.sigs slot ≡ Some signals → 1 ≤ signal → signal < 16 → AreSound (with_items r (signal_items head slot process signals signal trap))
signal_sound r head slot process signals signal trap sound is_head is there from to = elim (cases_Bool (handler_of signals signal == 0)) [
  | inl ends ↦ subst AreSound (sym (signal_ends r head slot process signals signal trap ends ∙ ended_are r head slot process (0x100 + signal) trap))
      (ended_sound r head slot process (0x100 + signal) trap sound is_head is (killed_status signal from to))
  | inr goes_on ↦ subst AreSound (sym (signal_are r head slot process signals signal trap goes_on))
      (change_sound r head slot process (signalled_process process signal (handler_of signals signal)) (updated r.sigs slot (Some (without_signal signals signal))) trap sound
      (signal_change r head slot process signals signal (handler_of signals signal) sound is_head is there))
]

begun_descriptors : (p : Process) (signal handler : ℕ) (call : CallState) → (entered_in_handler (interrupted_in (unix_without p signal) call) signal handler).descriptors ≡ p.descriptors
begun_descriptors p signal handler Out = refl
begun_descriptors p signal handler (In number done) = refl

left_descriptors : (p : Process) (signal handler : ℕ) → (left_by p signal handler).descriptors ≡ p.descriptors
left_descriptors p signal handler = elim (cases_Bool (handler == 1)) [
  | inl dropped ↦ rw dropped refl
  | inr runs ↦ rw runs (begun_descriptors p signal handler p.call)
]

in_kernel : (r : Records) (words : WordMap) (tapes : ℕ → List ℕ) (steps traps : ℕ) (slot : ℕ) (process : ProcRec) → AreSound r → IsIn r slot process
    → (unix_of r words tapes InKernel steps traps).processes process.pid ≡ Some (process_of r words slot process)
unfolding unix_of processes_of
in_kernel r words tapes steps traps slot process sound is = found_in r words slot process sound is

handler_same : (r : Records) (words : WordMap) (slot : ℕ) (process : ProcRec) (signals : SigRec) (signal : ℕ) → r.sigs slot ≡ Some signals
    → handler_of signals signal ≡ slice_index (process_of r words slot process).handlers (signal - 1)
unfolding process_of
handler_same r words slot process signals signal there = ap (λ (o : Option SigRec). slice_index (handlers_of o) (signal - 1)) (sym there)

left_unix : (r : Records) (head : HeadRec) (slot : ℕ) (process : ProcRec) (signals : SigRec) (signal trap : ℕ) (words : WordMap) (tapes : ℕ → List ℕ) (steps traps : ℕ)
    → AreSound r → r.head ≡ Some head → IsIn r slot process → r.sigs slot ≡ Some signals → signal < 16
    → unix_of (changed_records r head slot process (signalled_process process signal (handler_of signals signal)) (updated r.sigs slot (Some (without_signal signals signal))) trap) words tapes InKernel (steps + 1) (traps + 1)
    ≡ with_process (trapped (unix_of r words tapes InKernel steps traps) process.pid) process.pid (left_by (process_of r words slot process) signal (handler_of signals signal))
left_unix r head slot process signals signal trap words tapes steps traps sound is_head is there to =
    let p = process_of r words slot process in
    let handler = handler_of signals signal in
    let new = signalled_process process signal handler in
    let made = left_by p signal handler in
    let fits : FitsSig signals = subst (λ (o : Option SigRec). IfSome o FitsSig) there (sound.values (id.Sig slot)) in
    let fields = left_is r words slot process signals signal handler is.live there in
    changed_unix r head slot process new (updated r.sigs slot (Some (without_signal signals signal))) trap words tapes InKernel steps traps p made sound
    (signal_change r head slot process signals signal handler sound is_head is there) tt (in_kernel r words tapes steps traps slot process sound is)
    (made_is r head words slot process new signals signal trap made fits to fields) (left_descriptors p signal handler)

left_apart : (u : Unix) (pid : ℕ) (p : Process) (signal handler : ℕ) → with_process u pid (left_by p signal handler)
    ≡ (if handler == 1 then with_process u pid (unix_without p signal) else with_process u pid (entered_in_handler (interrupted_in (unix_without p signal) p.call) signal handler))
left_apart u pid p signal handler = elim (cases_Bool (handler == 1)) [ inl dropped ↦ rw dropped refl | inr runs ↦ rw runs refl ]

-- what the Unix makes of the signal
pub signal_unix : (r : Records) (head : HeadRec) (slot : ℕ) (process : ProcRec) (signals : SigRec) (signal trap : ℕ) (words : WordMap) (tapes : ℕ → List ℕ) (steps traps : ℕ)
    → AreSound r → r.head ≡ Some head → IsIn r slot process → r.sigs slot ≡ Some signals → 1 ≤ signal → signal < 16
    → unix_of (with_items r (signal_items head slot process signals signal trap)) words tapes InKernel (steps + 1) (traps + 1)
    ≡ signalled (unix_of r words tapes InKernel steps traps) process.pid (process_of r words slot process) signal
unfolding signalled signalled_by
signal_unix r head slot process signals signal trap words tapes steps traps sound is_head is there from to =
    let u = unix_of r words tapes InKernel steps traps in
    let p = process_of r words slot process in
    let held : u.processes process.pid ≡ Some p = in_kernel r words tapes steps traps slot process sound is in
    let handler : handler_of signals signal ≡ slice_index p.handlers (signal - 1) = handler_same r words slot process signals signal there in
    subst (λ (h : ℕ). unix_of (with_items r (signal_items head slot process signals signal trap)) words tapes InKernel (steps + 1) (traps + 1)
    ≡ signalled_by (trapped u process.pid) process.pid p signal h) handler
    (elim (cases_Bool (handler_of signals signal == 0)) [
      | inl ends ↦ rw ends (ap (λ (x : Records). unix_of x words tapes InKernel (steps + 1) (traps + 1))
          (signal_ends r head slot process signals signal trap ends ∙ ended_are r head slot process (0x100 + signal) trap)
          ∙ ended_unix r head slot process (0x100 + signal) trap words tapes InKernel steps traps p sound is_head is (killed_status signal from to) tt held)
      | inr goes_on ↦ rw goes_on (ap (λ (x : Records). unix_of x words tapes InKernel (steps + 1) (traps + 1)) (signal_are r head slot process signals signal trap goes_on)
          ∙ (left_unix r head slot process signals signal trap words tapes steps traps sound is_head is there to
          ∙ left_apart (trapped u process.pid) process.pid p signal (handler_of signals signal)))
    ])
