-- Records in which a process has ended stand for the state in which it has.
use Rattle.std.proofs.Common.{◌≡◌, ◌==◌, ◌&&◌, if◌then◌else◌, ℕ, zero, suc, ◌+◌, Bool, true, false, List, Option, Some, None, is_some, inl, inr, refl, sym, ap, subst, ◌∙◌, arith}
use Rattle.std.proofs.lemmas.Bool.{cases_Bool}
use Rattle.std.proofs.lemmas.Bool.Decides.{nat_tests}
use Rattle.ow_base.specs.Sv32.{WordMap}
use Rattle.ow_base.specs.Words.{updated}
use Rattle.record_layouts.specs.declared.head.HeadRec.{HeadRec}
use Rattle.record_layouts.specs.declared.proc.ProcRec.{ProcRec}
use Rattle.record_layouts.specs.declared.exit.ExitRec.{ExitRec}
use Rattle.record_layouts.specs.Unix.State.{Process, Description, in_use, is_named, is_named_by, AtKernel}
use Rattle.record_layouts.specs.Unix.Calls.{trapped, ended_as, child_of, unless_child_of}
use Rattle.record_layouts.specs.Unix.Choice.{least_from}
use Rattle.record_layouts.specs.Held.{Records}
use Rattle.record_layouts.specs.Pages.{is_live, pages_of, frame_of, entry_for}
use Rattle.record_layouts.specs.Spelling.{IsStatus}
use Rattle.record_layouts.specs.Decode.{Context, InKernel, InUser, slot_by, process_of, process_at, processes_of, with_bank, is_ended_as, ended_by, ended_in, ended_of, description_by, terminal_by, status_by, next_by, unix_of}
use Rattle.record_layouts.specs.Sound.{IsIn, AreNumbered, AreSound}
use Rattle.process_table.specs.Meaning.{IsOf}
use Rattle.process_table.specs.Least.{NonePasses}
use Rattle.process_table.specs.Patches.{ended_process, ended_exit}
use Rattle.process_table.proofs.Least.{least_found, least_passes}
use Rattle.process_table.proofs.Kept.{set_here, set_other, same_or_not}
use Rattle.process_table.proofs.Seats.{living, found_in, not_found}
use Rattle.process_table.proofs.Endings.{ended_records}
use Rattle.process_table.proofs.EndedSound.{ended_sound, ended_before}

-- what the processor has of a process is not seen of another
pub others_are : (r : Records) (words : WordMap) (context : Context) (pid q : ℕ) → IsOf context pid → (q ≡ pid → ⊥) → processes_of r words context q ≡ process_at r words q
unfolding processes_of
others_are r words InKernel pid q of apart = refl
others_are r words (InUser user count bank) pid q of apart = elim (cases_Bool (q == user)) [
  | inl same ↦ let equal : q ≡ user = grind (arith, nat_tests) in absurd (apart (equal ∙ of))
  | inr other ↦ rw other refl
]

-- the parent of a process is told by its record
parent_by : (r : Records) (words : WordMap) (slot : ℕ) (process : ProcRec) (p : Process) (decoded : Option Process)
    → decoded ≡ Some (process_of r words slot process) → decoded ≡ Some p → p.parent ≡ process.parent
unfolding process_of
parent_by r words slot process p decoded one two = let same : Some (process_of r words slot process) ≡ Some p = sym one ∙ two in
    let equal : p ≡ process_of r words slot process = cc in ap (λ (x : Process). x.parent) equal

pub parent_is : (r : Records) (words : WordMap) (context : Context) (slot : ℕ) (process : ProcRec) (p : Process) → AreSound r → IsIn r slot process → IsOf context process.pid
    → processes_of r words context process.pid ≡ Some p → p.parent ≡ process.parent
unfolding processes_of process_of
parent_is r words InKernel slot process p sound is of held = parent_by r words slot process p (process_at r words process.pid) (found_in r words slot process sound is) held
parent_is r words (InUser user count bank) slot process p sound is of held =
    let same : (process.pid == user) ≡ true = grind (arith, nat_tests, of) in
    let decoded : process_at r words process.pid ≡ Some (process_of r words slot process) = found_in r words slot process sound is in
    let banked : with_bank bank (process_at r words process.pid) ≡ Some p = rw same at held in
    let with_it : with_bank bank (Some (process_of r words slot process)) ≡ Some p = subst (λ (o : Option Process). with_bank bank o ≡ Some p) decoded banked in
    let equal : p ≡ record (process_of r words slot process) { bank = bank } = cc in
    ap (λ (x : Process). x.parent) equal

-- the process of another pid is as before
process_stays : (r : Records) (head : HeadRec) (slot : ℕ) (process : ProcRec) (status trap : ℕ) (words : WordMap) (place : ℕ) (other : ProcRec)
    → process_of (ended_records r head slot process status trap) words place other ≡ process_of r words place other
unfolding process_of pages_of frame_of entry_for
process_stays r head slot process status trap words place other = refl

pub others_stay : (r : Records) (head : HeadRec) (slot : ℕ) (process : ProcRec) (status trap : ℕ) (words : WordMap) (q : ℕ)
    → AreSound r → r.head ≡ Some head → IsIn r slot process → IsStatus status → (q ≡ process.pid → ⊥)
    → process_at (ended_records r head slot process status trap) words q ≡ process_at r words q
others_stay r head slot process status trap words q sound is_head is word apart =
    let new = ended_records r head slot process status trap in
    let sound_now : AreSound new = ended_sound r head slot process status trap sound is_head is word in
    let exit : updated r.exits process.pid (Some (ended_exit status)) q ≡ r.exits q = set_other r.exits process.pid (Some (ended_exit status)) q apart in
    elim (living r words q sound) [
      | inl missing ↦
          not_found new words q (ap slot_by exit ∙ missing.exit) ∙ sym missing.decoded
      | inr live ↦
          let places : live.slot ≡ slot → ⊥ = λ same.
          apart (sound.numbered.one_slot q process.pid slot (subst (λ (k : ℕ). slot_by (r.exits q) ≡ Some k) same live.exit) (sound.numbered.exit slot process is)) in
          let there : new.procs live.slot ≡ Some live.process = set_other r.procs slot (Some (ended_process process status)) live.slot places ∙ live.is.there in
          let in_new : IsIn new live.slot live.process = record { within = live.is.within; there = there; live = live.is.live } in
          let found : process_at new words q ≡ Some (process_of new words live.slot live.process) =
          subst (λ (k : ℕ). process_at new words k ≡ Some (process_of new words live.slot live.process)) live.same (found_in new words live.slot live.process sound_now in_new) in
          found ∙ (ap (λ (x : Process). Some x) (process_stays r head slot process status trap words live.slot live.process) ∙ sym live.decoded)
    ]

pub processes_now : (r : Records) (head : HeadRec) (slot : ℕ) (process : ProcRec) (status trap : ℕ) (words : WordMap) (context : Context) (q : ℕ)
    → AreSound r → r.head ≡ Some head → IsIn r slot process → IsStatus status → IsOf context process.pid
    → process_at (ended_records r head slot process status trap) words q ≡ updated (processes_of r words context) process.pid None q
processes_now r head slot process status trap words context q sound is_head is word of = elim (same_or_not q process.pid) [
  | inl same ↦
      let new = ended_records r head slot process status trap in
      let gone : slot_by (new.exits process.pid) ≡ None = ap slot_by (set_here r.exits process.pid (Some (ended_exit status))) in
      let here : process_at new words process.pid ≡ updated (processes_of r words context) process.pid None process.pid =
      not_found new words process.pid gone ∙ sym (set_here (processes_of r words context) process.pid None) in
      subst (λ (k : ℕ). process_at new words k ≡ updated (processes_of r words context) process.pid None k) (sym same) here
  | inr apart ↦
      others_stay r head slot process status trap words q sound is_head is word apart
      ∙ (sym (others_are r words context process.pid q of apart) ∙ sym (set_other (processes_of r words context) process.pid None q apart))
]

-- descriptions that are named now were named before
named_one : (ps : ℕ → Option Process) (pid number first : ℕ) → is_named_by number (updated ps pid None first) ≡ true → is_named_by number (ps first) ≡ true
named_one ps pid number first named = elim (cases_Bool (first == pid)) [ inl same ↦ absurd (cc (rw same at named)) | inr other ↦ rw other at named ]

named_before : (ps : ℕ → Option Process) (pid number first count : ℕ) → is_named (updated ps pid None) number first count ≡ true → is_named ps number first count ≡ true
unfolding is_named
named_before ps pid number first zero named = named
named_before ps pid number first (suc count) named = elim (cases_Bool (is_named_by number (updated ps pid None first))) [
  | inl here ↦ rw (named_one ps pid number first here) refl
  | inr unnamed ↦
      let rest : is_named ps number (first + 1) count ≡ true = named_before ps pid number (first + 1) count (rw unnamed at named) in
      elim (cases_Bool (is_named_by number (ps first))) [ inl held ↦ rw held refl | inr none ↦ rw none rest ]
]

pub in_use_now : (ps : ℕ → Option Process) (pid : ℕ) (ds : ℕ → Option Description) (number : ℕ)
    → in_use (updated ps pid None) ds number ≡ in_use (updated ps pid None) (in_use ps ds) number
unfolding in_use
in_use_now ps pid ds number = elim (cases_Bool (is_named (updated ps pid None) number 1 256)) [
  | inl named ↦ rw named (rw (named_before ps pid number 1 256 named) refl)
  | inr not_named ↦ rw not_named refl
]

status_now : (exits : ℕ → Option ExitRec) (pid status q : ℕ) → status_by (updated exits pid (Some (ended_exit status)) q) ≡ updated (λ k. status_by (exits k)) pid (Some status) q
status_now exits pid status q = elim (cases_Bool (q == pid)) [ inl same ↦ rw same refl | inr other ↦ rw other refl ]

-- where a record of an ended process is
pub ended_there : (held : Option ProcRec) (pid : ℕ) → is_ended_as pid held ≡ true → (other : ProcRec) × (held ≡ Some other) × (other.state ≡ 3) × (other.pid ≡ pid)
ended_there (Some other) pid ended = (other, refl, grind (arith, nat_tests, ended), grind (arith, nat_tests, ended))
ended_there None pid ended = absurd (cc ended)

not_ended : (r : Records) (slot : ℕ) (process : ProcRec) (place : ℕ) → AreNumbered r → IsIn r slot process → is_ended_as process.pid (r.procs place) ≡ false
not_ended r slot process place numbered is = elim (cases_Bool (is_ended_as process.pid (r.procs place))) [
  | inl ended ↦
      let other = ended_there (r.procs place) process.pid ended in
      absurd (ended_before r slot process place other.0 numbered is other.1 other.2 other.3)
  | inr none ↦ none
]

-- the slot of the process that has ended is found by its pid
place_now : (r : Records) (slot : ℕ) (process : ProcRec) (status : ℕ) → AreNumbered r → IsIn r slot process
    → least_from (λ k. is_ended_as process.pid (updated r.procs slot (Some (ended_process process status)) k)) 0 16 ≡ Some slot
place_now r slot process status numbered is =
    let new = updated r.procs slot (Some (ended_process process status)) in
    let passes : is_ended_as process.pid (new slot) ≡ true =
    ap (is_ended_as process.pid) (set_here r.procs slot (Some (ended_process process status))) ∙ grind (arith, nat_tests) in
    let below : NonePasses (λ k. is_ended_as process.pid (new k)) 0 slot = record {
      none = λ k from less.
          ap (is_ended_as process.pid) (set_other r.procs slot (Some (ended_process process status)) k (λ same. omega (arith, same, less))) ∙ not_ended r slot process k numbered is;
    } in
    least_found (λ k. is_ended_as process.pid (new k)) 0 16 16 slot refl (record { from = omega arith; to = is.within; passes = passes; below = below })

other_pid : (pid q : ℕ) → (q ≡ pid → ⊥) → (3 == 3 && pid == q) ≡ false
other_pid pid q apart = elim (cases_Bool (pid == q)) [
  | inl same ↦ let equal : pid ≡ q = grind (arith, nat_tests) in absurd (apart (sym equal))
  | inr other ↦ rw other refl
]

pub live_not_ended : (process : ProcRec) (q : ℕ) → is_live process ≡ true → is_ended_as q (Some process) ≡ false
live_not_ended process q live = elim (cases_Bool (process.state == 3)) [
  | inl ended ↦ let three : process.state ≡ 3 = grind (arith, nat_tests) in absurd (grind (arith, nat_tests, live))
  | inr other ↦ rw other refl
]

-- those of other pids are where they were
test_same : (r : Records) (slot : ℕ) (process : ProcRec) (status q : ℕ) → IsIn r slot process → (q ≡ process.pid → ⊥) → (k : ℕ)
    → is_ended_as q (updated r.procs slot (Some (ended_process process status)) k) ≡ is_ended_as q (r.procs k)
test_same r slot process status q is apart k = elim (same_or_not k slot) [
  | inl same ↦
      let now : is_ended_as q (updated r.procs slot (Some (ended_process process status)) slot) ≡ false =
      ap (is_ended_as q) (set_here r.procs slot (Some (ended_process process status))) ∙ other_pid process.pid q apart in
      let before : is_ended_as q (r.procs slot) ≡ false = ap (is_ended_as q) is.there ∙ live_not_ended process q is.live in
      subst (λ (j : ℕ). is_ended_as q (updated r.procs slot (Some (ended_process process status)) j) ≡ is_ended_as q (r.procs j)) (sym same) (now ∙ sym before)
  | inr elsewhere ↦ ap (is_ended_as q) (set_other r.procs slot (Some (ended_process process status)) k elsewhere)
]

-- what becomes of an ended child of another pid
child_by : (ps : ℕ → Option Process) (pid parent status : ℕ)
    → (if is_some (updated ps pid None parent) then Some (record { parent = parent; status = status }) else None)
    ≡ unless_child_of pid (if is_some (ps parent) then Some (record { parent = parent; status = status }) else None)
child_by ps pid parent status = elim (cases_Bool (parent == pid)) [
  | inl own ↦ elim (cases_Bool (is_some (ps parent))) [ inl live ↦ rw (own, live) (rw own refl) | inr dead ↦ rw (own, dead) refl ]
  | inr other ↦ elim (cases_Bool (is_some (ps parent))) [ inl live ↦ rw (other, live) (rw other refl) | inr dead ↦ rw (other, dead) refl ]
]

child_now : (ps : ℕ → Option Process) (pid : ℕ) (held : Option ProcRec) → ended_by (updated ps pid None) held ≡ unless_child_of pid (ended_by ps held)
child_now ps pid (Some process) = child_by ps pid process.parent process.status
child_now ps pid None = refl

child_in : (r : Records) (slot : ℕ) (process : ProcRec) (status q : ℕ) (ps : ℕ → Option Process) (new : Records) (found : Option ℕ)
    → new.procs ≡ updated r.procs slot (Some (ended_process process status)) → IsIn r slot process
    → least_from (λ k. is_ended_as q (r.procs k)) 0 16 ≡ found
    → ended_in new (updated ps process.pid None) found ≡ unless_child_of process.pid (ended_in r ps found)
child_in r slot process status q ps new None are is there = refl
child_in r slot process status q ps new (Some place) are is there =
    let ended : is_ended_as q (r.procs place) ≡ true = least_passes (λ k. is_ended_as q (r.procs k)) 0 16 place there in
    let apart : place ≡ slot → ⊥ = λ same.
    let live : is_ended_as q (r.procs place) ≡ false = subst (λ (j : ℕ). is_ended_as q (r.procs j) ≡ false) (sym same) (ap (is_ended_as q) is.there ∙ live_not_ended process q is.live) in
    cc (sym ended ∙ live) in
    let held : new.procs place ≡ r.procs place = ap (λ (f : ℕ → Option ProcRec). f place) are ∙ set_other r.procs slot (Some (ended_process process status)) place apart in
    ap (ended_by (updated ps process.pid None)) held ∙ child_now ps process.pid (r.procs place)

own_child : (is_live_parent : Bool) (parent status : ℕ) → (if is_live_parent then Some (record { parent = parent; status = status }) else None) ≡ child_of is_live_parent parent status
own_child true parent status = refl
own_child false parent status = refl

other_test : (q pid : ℕ) → (q ≡ pid → ⊥) → (q == pid) ≡ false
other_test q pid apart = elim (cases_Bool (q == pid)) [
  | inl same ↦ let equal : q ≡ pid = grind (arith, nat_tests) in absurd (apart equal)
  | inr other ↦ other
]

-- the ended children now
children_now : (r : Records) (head : HeadRec) (slot : ℕ) (process : ProcRec) (status trap : ℕ) (ps : ℕ → Option Process) (q : ℕ) → AreNumbered r → IsIn r slot process
    → ended_of (ended_records r head slot process status trap) (updated ps process.pid None) q
    ≡ (if q == process.pid then child_of (is_some (updated ps process.pid None process.parent)) process.parent status else unless_child_of process.pid (ended_of r ps q))
unfolding ended_of
children_now r head slot process status trap ps q numbered is =
    let new = ended_records r head slot process status trap in
    elim (same_or_not q process.pid) [
      | inl same ↦
          let found : least_from (λ k. is_ended_as process.pid (new.procs k)) 0 16 ≡ Some slot = place_now r slot process status numbered is in
          let at_slot : new.procs slot ≡ Some (ended_process process status) = set_here r.procs slot (Some (ended_process process status)) in
          let here : ended_in new (updated ps process.pid None) (least_from (λ k. is_ended_as process.pid (new.procs k)) 0 16)
          ≡ child_of (is_some (updated ps process.pid None process.parent)) process.parent status =
          ap (ended_in new (updated ps process.pid None)) found ∙ (ap (ended_by (updated ps process.pid None)) at_slot ∙ own_child (is_some (updated ps process.pid None process.parent)) process.parent status) in
          let test : (q == process.pid) ≡ true = grind (arith, nat_tests, same) in
          rw test (subst (λ (k : ℕ). ended_in new (updated ps process.pid None) (least_from (λ j. is_ended_as k (new.procs j)) 0 16)
          ≡ child_of (is_some (updated ps process.pid None process.parent)) process.parent status) (sym same) here)
      | inr apart ↦
          let tests : (λ k. is_ended_as q (new.procs k)) ≡ (λ k. is_ended_as q (r.procs k)) = λ i k. test_same r slot process status q is apart k i in
          let found : least_from (λ k. is_ended_as q (new.procs k)) 0 16 ≡ least_from (λ k. is_ended_as q (r.procs k)) 0 16 = ap (λ (t : ℕ → Bool). least_from t 0 16) tests in
          let test : (q == process.pid) ≡ false = other_test q process.pid apart in
          rw test (ap (ended_in new (updated ps process.pid None)) found
          ∙ child_in r slot process status q ps new (least_from (λ k. is_ended_as q (r.procs k)) 0 16) refl is refl)
    ]

-- the records of the ending, as the state of the Unix
pub ended_unix : (r : Records) (head : HeadRec) (slot : ℕ) (process : ProcRec) (status trap : ℕ) (words : WordMap) (tapes : ℕ → List ℕ) (context : Context) (steps traps : ℕ) (p : Process)
    → AreSound r → r.head ≡ Some head → IsIn r slot process → IsStatus status → IsOf context process.pid
    → (unix_of r words tapes context steps traps).processes process.pid ≡ Some p
    → unix_of (ended_records r head slot process status trap) words tapes InKernel (steps + 1) (traps + 1)
    ≡ ended_as (trapped (unix_of r words tapes context steps traps) process.pid) process.pid p status
unfolding unix_of trapped ended_as processes_of
ended_unix r head slot process status trap words tapes context steps traps p sound is_head is word of held =
    let new = ended_records r head slot process status trap in
    let ps = processes_of r words context in
    let processes : process_at new words ≡ updated ps process.pid None =
    λ i q. processes_now r head slot process status trap words context q sound is_head is word of i in
    let parent : p.parent ≡ process.parent = parent_is r words context slot process p sound is of held in
    let next : head.next ≡ next_by r.head = sym (ap next_by is_head) in
    let children : ended_of new (process_at new words)
    ≡ (λ q. if q == process.pid then child_of (is_some (updated ps process.pid None p.parent)) p.parent status else unless_child_of process.pid (ended_of r ps q)) =
    ap (ended_of new) processes ∙ (λ i q. (children_now r head slot process status trap ps q sound.numbered is
    ∙ ap (λ (own : ℕ). if q == process.pid then child_of (is_some (updated ps process.pid None own)) own status else unless_child_of process.pid (ended_of r ps q)) (sym parent)) i) in
    let ds = λ (number : ℕ). description_by (r.descs number) in
    let descriptions : in_use (process_at new words) ds ≡ in_use (updated ps process.pid None) (in_use ps ds) =
    ap (λ (live : ℕ → Option Process). in_use live ds) processes ∙ (λ i number. in_use_now ps process.pid ds number i) in
    λ i. record {
      processes = processes i;
      ended = children i;
      descriptions = descriptions i;
      files = λ _. None;
      room = r.map.user_frames;
      terminals = λ tty. terminal_by (tapes tty) (r.terms tty);
      exits = λ q. status_now r.exits process.pid status q i;
      next_pid = next i;
      last_pid = process.pid;
      steps = steps + 1;
      traps = traps + 1;
      position = AtKernel;
    }
