-- A bank that is saved: in the Unix its trap counts, and nothing else changes.
use Rattle.std.proofs.Common.{◌≡◌, ◌==◌, ℕ, ◌+◌, true, List, Option, Some, IfSome, inl, inr, refl, sym, ap, subst, ◌∙◌, arith}
use Rattle.std.proofs.lemmas.Bool.Decides.{nat_tests}
use Rattle.ow_base.specs.Sv32.{WordMap}
use Rattle.ow_base.specs.Words.{updated}
use Rattle.ow_base.specs.declared.machine.Bank.{Bank}
use Rattle.record_layouts.specs.declared.places.RecordId.TheVariants as id
use Rattle.record_layouts.specs.declared.head.HeadRec.{HeadRec}
use Rattle.record_layouts.specs.declared.proc.ProcRec.{ProcRec}
use Rattle.record_layouts.specs.Unix.State.{Process}
use Rattle.record_layouts.specs.Unix.Calls.{trapped}
use Rattle.record_layouts.specs.Held.{Records, with_items}
use Rattle.record_layouts.specs.Pages.{is_live, region_of, pages_of, frame_of, entry_for}
use Rattle.record_layouts.specs.Proc.{FitsProc, FitsLive}
use Rattle.record_layouts.specs.Decode.{InKernel, InUser, process_of, processes_of, with_bank, unix_of}
use Rattle.record_layouts.specs.Sound.{IsIn, AreSound}
use Rattle.process_table.specs.Patches.{saved_items, saved_process}
use Rattle.process_table.proofs.Ended.{live_fits}
use Rattle.process_table.proofs.Kept.{IsKin, set_here, same_or_not, set_other}
use Rattle.process_table.proofs.Seats.{found_in}
use Rattle.process_table.proofs.Changes.{IsChange, AreFor, changed_records, change_sound}
use Rattle.process_table.proofs.ChangedUnix.{changed_unix}

pub saved_are : (r : Records) (head : HeadRec) (slot : ℕ) (process : ProcRec) (bank : Bank) (trap : ℕ)
    → with_items r (saved_items head slot process bank trap) ≡ changed_records r head slot process (saved_process process bank) r.sigs trap
unfolding saved_items
saved_are r head slot process bank trap = refl

-- the signals as they are
pub same_signals : (r : Records) (slot : ℕ) (process : ProcRec) → AreSound r → IsIn r slot process → AreFor r slot process.pid r.sigs
same_signals r slot process sound is = record {
  here = sound.numbered.signals slot process is;
  elsewhere = λ k apart. refl;
  values = λ k. sound.values (id.Sig k);
  complete = λ k. sound.complete (id.Sig k);
}

saved_kin : (process : ProcRec) (bank : Bank) → is_live process ≡ true → process.state ≡ 1 → IsKin process (saved_process process bank)
saved_kin process bank live out = record {
  pid = refl;
  parent = refl;
  descs = refl;
  regions = record { live = live; lives = live; code = refl; values = refl; brk = refl };
  call = λ in_call. absurd (omega (arith, out, in_call));
}

saved_fits : (process : ProcRec) (bank : Bank) → FitsProc process → is_live process ≡ true → process.state ≡ 1 → FitsProc (saved_process process bank)
saved_fits process bank fits live out =
    let held : FitsLive process = live_fits process fits live in
    record {
      state = fits.state;
      free = λ free. absurd (omega (arith, out, free));
      live = λ lives. record { pid = held.pid; parent = held.parent; code_pages = held.code_pages; data_pages = held.data_pages; heap_end = held.heap_end; flags = held.flags; status = held.status; descs = held.descs };
      no_call = fits.no_call;
      none_done = fits.none_done;
      ended = λ ended. absurd (omega (arith, out, ended));
    }

pub saved_change : (r : Records) (head : HeadRec) (slot : ℕ) (process : ProcRec) (bank : Bank) → AreSound r → r.head ≡ Some head → IsIn r slot process → process.state ≡ 1
    → IsChange r head slot process (saved_process process bank) r.sigs
saved_change r head slot process bank sound is_head is out =
    let fits : FitsProc process = subst (λ (p : Option ProcRec). IfSome p FitsProc) is.there (sound.values (id.Proc slot)) in
    record {
      is_head = is_head;
      is = is;
      kin = saved_kin process bank is.live out;
      fits = saved_fits process bank fits is.live out;
      signals = same_signals r slot process sound is;
    }

pub saved_sound : (r : Records) (head : HeadRec) (slot : ℕ) (process : ProcRec) (bank : Bank) (trap : ℕ) → AreSound r → r.head ≡ Some head → IsIn r slot process → process.state ≡ 1
    → AreSound (with_items r (saved_items head slot process bank trap))
saved_sound r head slot process bank trap sound is_head is out = subst AreSound (sym (saved_are r head slot process bank trap))
    (change_sound r head slot process (saved_process process bank) r.sigs trap sound (saved_change r head slot process bank sound is_head is out))

-- the process with the bank is the one in user mode
made_is : (r : Records) (head : HeadRec) (slot : ℕ) (process : ProcRec) (bank : Bank) (trap : ℕ) (words : WordMap)
    → record (process_of r words slot process) { bank = bank } ≡ process_of (changed_records r head slot process (saved_process process bank) r.sigs trap) words slot (saved_process process bank)
unfolding process_of pages_of frame_of entry_for region_of
made_is r head slot process bank trap words = refl

user_is : (r : Records) (words : WordMap) (slot : ℕ) (process : ProcRec) (count : ℕ) (bank : Bank) → AreSound r → IsIn r slot process
    → processes_of r words (InUser process.pid count bank) process.pid ≡ Some (record (process_of r words slot process) { bank = bank })
unfolding processes_of
user_is r words slot process count bank sound is =
    let same : (process.pid == process.pid) ≡ true = grind (arith, nat_tests) in
    rw same (ap (with_bank bank) (found_in r words slot process sound is))

-- a process that is set to itself
set_itself_at : (ps : ℕ → Option Process) (pid : ℕ) (p : Process) (q : ℕ) → ps pid ≡ Some p → updated ps pid (Some p) q ≡ ps q
set_itself_at ps pid p q there = elim (same_or_not q pid) [
  | inl here ↦ subst (λ (k : ℕ). updated ps pid (Some p) k ≡ ps k) (sym here) (set_here ps pid (Some p) ∙ sym there)
  | inr apart ↦ set_other ps pid (Some p) q apart
]

pub set_itself : (ps : ℕ → Option Process) (pid : ℕ) (p : Process) → ps pid ≡ Some p → updated ps pid (Some p) ≡ ps
set_itself ps pid p there = λ i q. set_itself_at ps pid p q there i

pub saved_unix : (r : Records) (head : HeadRec) (slot : ℕ) (process : ProcRec) (bank : Bank) (trap : ℕ) (words : WordMap) (tapes : ℕ → List ℕ) (count steps traps : ℕ)
    → AreSound r → r.head ≡ Some head → IsIn r slot process → process.state ≡ 1
    → unix_of (with_items r (saved_items head slot process bank trap)) words tapes InKernel (steps + 1) (traps + 1)
    ≡ trapped (unix_of r words tapes (InUser process.pid count bank) steps traps) process.pid
unfolding unix_of trapped
saved_unix r head slot process bank trap words tapes count steps traps sound is_head is out =
    let context = InUser process.pid count bank in
    let p = record (process_of r words slot process) { bank = bank } in
    let held : processes_of r words context process.pid ≡ Some p = user_is r words slot process count bank sound is in
    let change : IsChange r head slot process (saved_process process bank) r.sigs = saved_change r head slot process bank sound is_head is out in
    let made = changed_unix r head slot process (saved_process process bank) r.sigs trap words tapes context steps traps p p sound change refl held
    (made_is r head slot process bank trap words) refl in
    ap (λ (x : Records). unix_of x words tapes InKernel (steps + 1) (traps + 1)) (saved_are r head slot process bank trap)
    ∙ (made ∙ ap (λ (live : ℕ → Option Process). record (trapped (unix_of r words tapes context steps traps) process.pid) { processes = live })
    (set_itself (processes_of r words context) process.pid p held))
