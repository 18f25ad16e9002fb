-- Records in which one live process is changed stand for the state in which it is.
use Rattle.std.proofs.Common.{◌≡◌, ◌==◌, ◌||◌, if◌then◌else◌, ℕ, zero, suc, ◌+◌, Bool, true, false, List, Option, Some, None, is_some, inl, inr, refl, sym, ap, subst, ◌∙◌, arith}
use Rattle.std.proofs.lemmas.Bool.Decides.{nat_tests}
use Rattle.ow_base.specs.Sv32.{WordMap}
use Rattle.ow_base.specs.Words.{updated}
use Rattle.ow_base.specs.declared.machine.Bank.{Bank}
use Rattle.record_layouts.specs.declared.head.HeadRec.{HeadRec}
use Rattle.record_layouts.specs.declared.proc.ProcRec.{ProcRec}
use Rattle.record_layouts.specs.declared.sig.SigRec.{SigRec}
use Rattle.record_layouts.specs.Unix.State.{Process, Description, in_use, is_named, is_named_by, is_among, AtKernel}
use Rattle.record_layouts.specs.Unix.Calls.{trapped, with_process}
use Rattle.record_layouts.specs.Unix.Choice.{least_from}
use Rattle.record_layouts.specs.Held.{Records}
use Rattle.record_layouts.specs.Pages.{is_live, pages_of, frame_of, entry_for}
use Rattle.record_layouts.specs.Decode.{Context, InKernel, InUser, slot_by, process_of, process_at, processes_of, with_bank, is_ended_as, ended_by, ended_in, ended_of, description_by, terminal_by, status_by, next_by, unix_of}
use Rattle.record_layouts.specs.Sound.{IsIn, AreSound}
use Rattle.process_table.proofs.Least.{least_passes}
use Rattle.process_table.proofs.Regions.{changed}
use Rattle.process_table.specs.Meaning.{IsOf}
use Rattle.process_table.proofs.Kept.{set_here, set_other, same_or_not}
use Rattle.process_table.proofs.Seats.{living, found_in, not_found}
use Rattle.process_table.proofs.Changes.{IsChange, changed_records, change_sound, here_now}
use Rattle.process_table.proofs.EndedUnix.{others_are, live_not_ended}
use Rattle.process_table.proofs.Endings.{served}

-- what the Unix has of the process of a slot: all but the bank is told by its record
but_bank : (r : Records) (words : WordMap) (slot : ℕ) (process : ProcRec) (bank : Bank) (p : Process) (decoded : Option Process)
    → decoded ≡ Some (process_of r words slot process) → with_bank bank decoded ≡ Some p → p ≡ record (process_of r words slot process) { bank = bank }
but_bank r words slot process bank p decoded one two =
    let both : with_bank bank (Some (process_of r words slot process)) ≡ Some p = subst (λ (o : Option Process). with_bank bank o ≡ Some p) one two in
    cc

pub but_its_bank : (r : Records) (words : WordMap) (context : Context) (slot : ℕ) (process : ProcRec) (p : Process) → AreSound r → IsIn r slot process → IsOf context process.pid
    → processes_of r words context process.pid ≡ Some p → p ≡ record (process_of r words slot process) { bank = p.bank }
unfolding processes_of
but_its_bank r words InKernel slot process p sound is of held =
    let both : Some (process_of r words slot process) ≡ Some p = sym (found_in r words slot process sound is) ∙ held in
    let equal : p ≡ process_of r words slot process = cc in
    subst (λ (x : Process). x ≡ record (process_of r words slot process) { bank = x.bank }) (sym equal) refl
but_its_bank r words (InUser user count bank) slot process p sound is of held =
    let same : (process.pid == user) ≡ true = grind (arith, nat_tests, of) in
    let equal : p ≡ record (process_of r words slot process) { bank = bank } =
    but_bank r words slot process bank p (process_at r words process.pid) (found_in r words slot process sound is) (rw same at held) in
    subst (λ (x : Process). x ≡ record (process_of r words slot process) { bank = x.bank }) (sym equal) refl

process_stays : (r : Records) (head : Option HeadRec) (procs : ℕ → Option ProcRec) (sigs : ℕ → Option SigRec) (words : WordMap) (place : ℕ) (other : ProcRec)
    → sigs place ≡ r.sigs place → process_of (changed r head procs sigs r.exits) words place other ≡ process_of r words place other
unfolding process_of pages_of frame_of entry_for
process_stays r head procs sigs words place other same = rw same refl

pub others_stay : (r : Records) (head : HeadRec) (slot : ℕ) (process new : ProcRec) (sigs : ℕ → Option SigRec) (trap : ℕ) (words : WordMap) (q : ℕ)
    → AreSound r → IsChange r head slot process new sigs → (q ≡ process.pid → ⊥)
    → process_at (changed_records r head slot process new sigs trap) words q ≡ process_at r words q
others_stay r head slot process new sigs trap words q sound change apart =
    let now = changed_records r head slot process new sigs trap in
    let sound_now : AreSound now = change_sound r head slot process new sigs trap sound change in
    elim (living r words q sound) [
      | inl missing ↦ not_found now words q missing.exit ∙ sym missing.decoded
      | inr live ↦
          let places : live.slot ≡ slot → ⊥ = λ same.
          apart (sound.numbered.one_slot q process.pid slot (subst (λ (k : ℕ). slot_by (r.exits q) ≡ Some k) same live.exit) (sound.numbered.exit slot process change.is)) in
          let there : now.procs live.slot ≡ Some live.process = set_other r.procs slot (Some new) live.slot places ∙ live.is.there in
          let in_now : IsIn now live.slot live.process = record { within = live.is.within; there = there; live = live.is.live } in
          let found : process_at now words q ≡ Some (process_of now words live.slot live.process) =
          subst (λ (k : ℕ). process_at now words k ≡ Some (process_of now words live.slot live.process)) live.same (found_in now words live.slot live.process sound_now in_now) in
          found ∙ (ap (λ (x : Process). Some x) (process_stays r (Some (served head trap process.pid)) (updated r.procs slot (Some new)) sigs words live.slot live.process (change.signals.elsewhere live.slot places)) ∙ sym live.decoded)
    ]

pub processes_now : (r : Records) (head : HeadRec) (slot : ℕ) (process new : ProcRec) (sigs : ℕ → Option SigRec) (trap : ℕ) (words : WordMap) (context : Context) (q : ℕ)
    → AreSound r → IsChange r head slot process new sigs → IsOf context process.pid
    → process_at (changed_records r head slot process new sigs trap) words q
    ≡ updated (processes_of r words context) process.pid (Some (process_of (changed_records r head slot process new sigs trap) words slot new)) q
processes_now r head slot process new sigs trap words context q sound change of =
    let now = changed_records r head slot process new sigs trap in
    let value = Some (process_of now words slot new) in
    elim (same_or_not q process.pid) [
      | inl same ↦
          let found : process_at now words new.pid ≡ Some (process_of now words slot new) =
          found_in now words slot new (change_sound r head slot process new sigs trap sound change) (here_now r head slot process new sigs trap change) in
          let pid : new.pid ≡ q = change.kin.pid ∙ sym same in
          let at_q : process_at now words q ≡ Some (process_of now words slot new) = subst (λ (k : ℕ). process_at now words k ≡ Some (process_of now words slot new)) pid found in
          let set : updated (processes_of r words context) process.pid value q ≡ value =
          subst (λ (k : ℕ). updated (processes_of r words context) process.pid value k ≡ value) (sym same) (set_here (processes_of r words context) process.pid value) in
          at_q ∙ sym set
      | inr apart ↦
          others_stay r head slot process new sigs trap words q sound change apart
          ∙ (sym (others_are r words context process.pid q of apart) ∙ sym (set_other (processes_of r words context) process.pid value q apart))
    ]

-- a process with the same descriptors names the same descriptions
named_same : (ps : ℕ → Option Process) (pid : ℕ) (old new : Process) (number first : ℕ) → ps pid ≡ Some old → new.descriptors ≡ old.descriptors
    → is_named_by number (updated ps pid (Some new) first) ≡ is_named_by number (ps first)
named_same ps pid old new number first there same = elim (same_or_not first pid) [
  | inl here ↦
      let set : updated ps pid (Some new) pid ≡ Some new = set_here ps pid (Some new) in
      let one : is_named_by number (updated ps pid (Some new) pid) ≡ is_among number new.descriptors = ap (is_named_by number) set in
      let two : is_named_by number (ps pid) ≡ is_among number old.descriptors = ap (is_named_by number) there in
      subst (λ (k : ℕ). is_named_by number (updated ps pid (Some new) k) ≡ is_named_by number (ps k)) (sym here)
      (one ∙ (ap (is_among number) same ∙ sym two))
  | inr apart ↦ ap (is_named_by number) (set_other ps pid (Some new) first apart)
]

named_still : (ps : ℕ → Option Process) (pid : ℕ) (old new : Process) (number first count : ℕ) → ps pid ≡ Some old → new.descriptors ≡ old.descriptors
    → is_named (updated ps pid (Some new)) number first count ≡ is_named ps number first count
unfolding is_named
named_still ps pid old new number first zero there same = refl
named_still ps pid old new number first (suc count) there same =
    ap (λ (b : Bool). b || is_named (updated ps pid (Some new)) number (first + 1) count) (named_same ps pid old new number first there same)
    ∙ ap (λ (b : Bool). is_named_by number (ps first) || b) (named_still ps pid old new number (first + 1) count there same)

pub in_use_still : (ps : ℕ → Option Process) (pid : ℕ) (old new : Process) (ds : ℕ → Option Description) (number : ℕ) → ps pid ≡ Some old → new.descriptors ≡ old.descriptors
    → in_use (updated ps pid (Some new)) ds number ≡ in_use ps ds number
unfolding in_use
in_use_still ps pid old new ds number there same = rw (named_still ps pid old new number 1 256 there same) refl

-- who is live stays so
live_still : (ps : ℕ → Option Process) (pid : ℕ) (old new : Process) (q : ℕ) → ps pid ≡ Some old → is_some (updated ps pid (Some new) q) ≡ is_some (ps q)
live_still ps pid old new q there = elim (same_or_not q pid) [
  | inl here ↦
      let one : is_some (updated ps pid (Some new) pid) ≡ true = ap is_some (set_here ps pid (Some new)) in
      let two : is_some (ps pid) ≡ true = ap is_some there in
      subst (λ (k : ℕ). is_some (updated ps pid (Some new) k) ≡ is_some (ps k)) (sym here) (one ∙ sym two)
  | inr apart ↦ ap is_some (set_other ps pid (Some new) q apart)
]

child_still : (ps : ℕ → Option Process) (pid : ℕ) (old new : Process) (held : Option ProcRec) → ps pid ≡ Some old → ended_by (updated ps pid (Some new)) held ≡ ended_by ps held
child_still ps pid old new (Some process) there =
    ap (λ (live : Bool). if live then Some (record { parent = process.parent; status = process.status }) else None) (live_still ps pid old new process.parent there)
child_still ps pid old new None there = refl

-- records of ended processes are where they were
test_same : (r : Records) (slot : ℕ) (process new : ProcRec) (q : ℕ) → IsIn r slot process → is_live new ≡ true → (k : ℕ)
    → is_ended_as q (updated r.procs slot (Some new) k) ≡ is_ended_as q (r.procs k)
test_same r slot process new q is live k = elim (same_or_not k slot) [
  | inl same ↦
      let now : is_ended_as q (updated r.procs slot (Some new) slot) ≡ false = ap (is_ended_as q) (set_here r.procs slot (Some new)) ∙ live_not_ended new q live in
      let before : is_ended_as q (r.procs slot) ≡ false = ap (is_ended_as q) is.there ∙ live_not_ended process q is.live in
      subst (λ (j : ℕ). is_ended_as q (updated r.procs slot (Some new) j) ≡ is_ended_as q (r.procs j)) (sym same) (now ∙ sym before)
  | inr elsewhere ↦ ap (is_ended_as q) (set_other r.procs slot (Some new) k elsewhere)
]

child_in : (r now : Records) (slot : ℕ) (process new : ProcRec) (q : ℕ) (ps : ℕ → Option Process) (p made : Process) (found : Option ℕ)
    → now.procs ≡ updated r.procs slot (Some new) → IsIn r slot process → ps process.pid ≡ Some p → least_from (λ k. is_ended_as q (r.procs k)) 0 16 ≡ found
    → ended_in now (updated ps process.pid (Some made)) found ≡ ended_in r ps found
child_in r now slot process new q ps p made None are is live there = refl
child_in r now slot process new q ps p made (Some place) are is live there =
    let ended : is_ended_as q (r.procs place) ≡ true = least_passes (λ k. is_ended_as q (r.procs k)) 0 16 place there in
    let apart : place ≡ slot → ⊥ = λ same.
    let lives : is_ended_as q (r.procs place) ≡ false = subst (λ (j : ℕ). is_ended_as q (r.procs j) ≡ false) (sym same) (ap (is_ended_as q) is.there ∙ live_not_ended process q is.live) in
    cc (sym ended ∙ lives) in
    let held : now.procs place ≡ r.procs place = ap (λ (f : ℕ → Option ProcRec). f place) are ∙ set_other r.procs slot (Some new) place apart in
    ap (ended_by (updated ps process.pid (Some made))) held ∙ child_still ps process.pid p made (r.procs place) live

pub children_still : (r : Records) (head : HeadRec) (slot : ℕ) (process new : ProcRec) (sigs : ℕ → Option SigRec) (trap : ℕ) (ps : ℕ → Option Process) (p made : Process) (q : ℕ)
    → IsChange r head slot process new sigs → ps process.pid ≡ Some p
    → ended_of (changed_records r head slot process new sigs trap) (updated ps process.pid (Some made)) q ≡ ended_of r ps q
unfolding ended_of
children_still r head slot process new sigs trap ps p made q change live =
    let now = changed_records r head slot process new sigs trap in
    let tests : (λ k. is_ended_as q (now.procs k)) ≡ (λ k. is_ended_as q (r.procs k)) = λ i k. test_same r slot process new q change.is change.kin.regions.live k i in
    let found : least_from (λ k. is_ended_as q (now.procs k)) 0 16 ≡ least_from (λ k. is_ended_as q (r.procs k)) 0 16 = ap (λ (t : ℕ → Bool). least_from t 0 16) tests in
    ap (ended_in now (updated ps process.pid (Some made))) found
    ∙ child_in r now slot process new q ps p made (least_from (λ k. is_ended_as q (r.procs k)) 0 16) refl change.is live refl

-- the records as the state of the Unix: the process becomes what its record is now, and nothing else changes
pub changed_unix : (r : Records) (head : HeadRec) (slot : ℕ) (process new : ProcRec) (sigs : ℕ → Option SigRec) (trap : ℕ)
    (words : WordMap) (tapes : ℕ → List ℕ) (context : Context) (steps traps : ℕ) (p made : Process)
    → AreSound r → IsChange r head slot process new sigs → IsOf context process.pid
    → (unix_of r words tapes context steps traps).processes process.pid ≡ Some p
    → made ≡ process_of (changed_records r head slot process new sigs trap) words slot new → made.descriptors ≡ p.descriptors
    → unix_of (changed_records r head slot process new sigs trap) words tapes InKernel (steps + 1) (traps + 1)
    ≡ with_process (trapped (unix_of r words tapes context steps traps) process.pid) process.pid made
unfolding unix_of trapped processes_of
changed_unix r head slot process new sigs trap words tapes context steps traps p made sound change of held is same =
    let now = changed_records r head slot process new sigs trap in
    let ps = processes_of r words context in
    let processes : process_at now words ≡ updated ps process.pid (Some made) =
    λ i q. (processes_now r head slot process new sigs trap words context q sound change of ∙ ap (λ (x : Process). updated ps process.pid (Some x) q) (sym is)) i in
    let next : head.next ≡ next_by r.head = sym (ap next_by change.is_head) in
    let children : ended_of now (process_at now words) ≡ ended_of r ps =
    ap (ended_of now) processes ∙ (λ i q. children_still r head slot process new sigs trap ps p made q change held i) in
    let ds = λ (number : ℕ). description_by (r.descs number) in
    let descriptions : in_use (process_at now words) ds ≡ in_use ps ds =
    ap (λ (live : ℕ → Option Process). in_use live ds) processes ∙ (λ i number. in_use_still ps process.pid p made ds number held same i) in
    λ i. record {
      processes = processes i;
      ended = children i;
      descriptions = descriptions i;
      files = λ _. None;
      room = r.map.user_frames;
      terminals = λ tty. terminal_by (tapes tty) (r.terms tty);
      exits = λ q. status_by (r.exits q);
      next_pid = next i;
      last_pid = process.pid;
      steps = steps + 1;
      traps = traps + 1;
      position = AtKernel;
    }
