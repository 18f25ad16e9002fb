-- A live process of sound records becomes another with the same pid, parent, pages and descriptors: what the records
-- then stand for.
use Rattle.std.proofs.Common.{◌≡◌, ◌==◌, ℕ, ◌+◌, Bool, true, List, Option, Some, None, is_some, inl, inr, refl, sym, ap, subst, ◌∙◌, arith}
use Rattle.std.proofs.lemmas.Bool.Decides.{nat_tests}
use Rattle.ow_base.specs.Sv32.{WordMap}
use Rattle.ow_base.specs.Words.{updated}
use Rattle.ow_base.specs.declared.machine.Bank.{Bank}
use Rattle.record_layouts.specs.declared.head.HeadRec.{HeadRec}
use Rattle.record_layouts.specs.declared.proc.ProcRec.{ProcRec}
use Rattle.record_layouts.specs.declared.term.TermRec.{TermRec}
use Rattle.record_layouts.specs.declared.row.RowRec.{RowRec}
use Rattle.record_layouts.specs.Unix.State.{AtKernel, Process, in_use}
use Rattle.record_layouts.specs.Unix.Calls.{trapped, with_process}
use Rattle.record_layouts.specs.Unix.Choice.{least_from}
use Rattle.record_layouts.specs.Held.{Records}
use Rattle.record_layouts.specs.Pages.{is_live, is_mapped, pages_of}
use Rattle.record_layouts.specs.Decode.{Context, InKernel, InUser, slot_by, pid_in, decodes, description_by, ended_by, ended_in, ended_of, handlers_of, is_ended_as, is_pending, status_by, next_by, process_at, process_of, processes_of, terminal_by, unix_of, with_bank}
use Rattle.record_layouts.specs.Sound.{IsIn, AreSound}
use Rattle.process_table.specs.Patches.{bank_of}
use Rattle.process_table.proofs.Kept.{set_here, set_other, same_or_not}
use Rattle.process_table.proofs.Regions.{SameRegions, mapped_same}
use Rattle.process_table.specs.Meaning.{IsOf}
use Rattle.process_table.proofs.EndedUnix.{live_not_ended, others_are}
use Rattle.process_table.proofs.ChangedUnix.{in_use_still}
use Rattle.process_table.proofs.Seats.{Living, found_in, living, not_found, pid_here, this_number}
use Rattle.syscalls.proofs.Altered.{altered, decoded_stays, mapped_stays, pid_stays}

-- a live process that is another but for its registers, its call and its pages
pub record IsNext (process after : ProcRec) : Type 0 where
  pub pid : after.pid ≡ process.pid
  pub parent : after.parent ≡ process.parent
  pub status : after.status ≡ process.status
  pub descs : after.descs ≡ process.descs
  pub live : is_live after ≡ true

-- and with the same pages
pub record IsAfter (process after : ProcRec) : Type 0 where
  pub pid : after.pid ≡ process.pid
  pub parent : after.parent ≡ process.parent
  pub status : after.status ≡ process.status
  pub descs : after.descs ≡ process.descs
  pub regions : SameRegions after process

pub next_of : (process after : ProcRec) → IsAfter process after → IsNext process after
next_of process after is = record { pid = is.pid; parent = is.parent; status = is.status; descs = is.descs; live = is.regions.live }

-- the bank that a process has
abbrev pub bank_by : Context → ProcRec → Bank
bank_by InKernel process = bank_of process
bank_by (InUser user count bank) process = bank

-- a process that is decoded
decoded_at : (r : Records) (words : WordMap) (slot : ℕ) (process : ProcRec) → slot_by (r.exits process.pid) ≡ Some slot → pid_in r slot ≡ Some process.pid
    → r.procs slot ≡ Some process → decodes r slot process.pid process ≡ true → process_at r words process.pid ≡ Some (process_of r words slot process)
unfolding process_at
decoded_at r words slot process exit here there decoded = rw exit (rw here (rw (this_number process.pid) (rw there (rw decoded refl))))

decodes_by : (r : Records) (slot : ℕ) (process : ProcRec) → is_some r.head ≡ true → is_live process ≡ true → is_mapped r slot process ≡ true → decodes r slot process.pid process ≡ true
decodes_by r slot process head live mapped = rw (head, live, mapped) (grind (arith, nat_tests))

-- what a process in the processor is
banked : (r : Records) (words : WordMap) (slot : ℕ) (process : ProcRec) → process_of r words slot process ≡ record (process_of r words slot process) { bank = bank_of process }
unfolding process_of
banked r words slot process = refl

pub caller_decodes : (r : Records) (words : WordMap) (context : Context) (slot : ℕ) (process : ProcRec) → AreSound r → IsIn r slot process → IsOf context process.pid
    → processes_of r words context process.pid ≡ Some (record (process_of r words slot process) { bank = bank_by context process })
unfolding processes_of
caller_decodes r words InKernel slot process sound is of = found_in r words slot process sound is ∙ ap (λ (p : Process). Some p) (banked r words slot process)
caller_decodes r words (InUser user count bank) slot process sound is of =
    let same : (process.pid == user) ≡ true = grind (arith, nat_tests, of) in
    rw same (ap (with_bank bank) (found_in r words slot process sound is))

-- who is live stays so
live_same : (ps : ℕ → Option Process) (pid : ℕ) (old new : Process) (q : ℕ) → ps pid ≡ Some old → is_some (updated ps pid (Some new) q) ≡ is_some (ps q)
live_same ps pid old new q there = elim (same_or_not q pid) [
  | inl equal ↦ subst (λ (k : ℕ). is_some (updated ps pid (Some new) k) ≡ is_some (ps k)) (sym equal)
      (ap is_some (set_here ps pid (Some new)) ∙ sym (ap is_some there))
  | inr apart ↦ ap is_some (set_other ps pid (Some new) q apart)
]

-- whose child a process was when it ended
child_of_it : (new old : ProcRec) (ps : ℕ → Option Process) (pid : ℕ) (was is : Process) → ps pid ≡ Some was → new.parent ≡ old.parent → new.status ≡ old.status
    → ended_by (updated ps pid (Some is)) (Some new) ≡ ended_by ps (Some old)
child_of_it new old ps pid was is there parent status = rw (parent, status) (rw (live_same ps pid was is old.parent there) refl)

pub child_same : (held : Option ProcRec) (ps : ℕ → Option Process) (pid : ℕ) (was is : Process) → ps pid ≡ Some was → ended_by (updated ps pid (Some is)) held ≡ ended_by ps held
child_same (Some process) ps pid was is there = rw (live_same ps pid was is process.parent there) refl
child_same None ps pid was is there = refl

-- the records in which a process is this, and the trap is done
abbrev pub becoming : Records → HeadRec → (slot pid : ℕ) → ProcRec → (ℕ → Option TermRec) → (ℕ → Option RowRec) → (trap : ℕ) → Records
becoming r head slot pid after terms rows trap = altered r (Some (record head { served = trap; last = pid })) (updated r.procs slot (Some after)) terms rows

-- the records with other owners of frames and other words of tables
abbrev pub prepared : Records → (owners : ℕ → ℕ) → (tables : (slot table word : ℕ) → ℕ) → Records
prepared r owners tables = record r { owners = owners; table_words = tables }

-- all live processes but the one of a slot keep their pages
pub record OthersStay (r : Records) (words : WordMap) (slot : ℕ) (then_records : Records) (words_then : WordMap) : Type 0 where
  pub mapped : (place : ℕ) (other : ProcRec) → IsIn r place other → (place ≡ slot → ⊥) → is_mapped then_records place other ≡ true
  pub pages : (place : ℕ) (other : ProcRec) → IsIn r place other → (place ≡ slot → ⊥)
      → pages_of then_records words_then place other ≡ pages_of r words place other

-- with the same pages and signals it is the same process
decoded_same : (r : Records) (words : WordMap) (then_records : Records) (words_then : WordMap) → then_records.sigs ≡ r.sigs → (slot : ℕ) (process : ProcRec)
    → pages_of then_records words_then slot process ≡ pages_of r words slot process → process_of then_records words_then slot process ≡ process_of r words slot process
unfolding process_of
decoded_same r words then_records words_then sigs slot process pages = λ i. record (process_of r words slot process) {
  pages = pages i;
  handlers = handlers_of (sigs i slot);
  pending = is_pending (sigs i slot);
}

module _ (r : Records) (head : HeadRec) (slot : ℕ) (process after : ProcRec) (terms : ℕ → Option TermRec) (rows : ℕ → Option RowRec) (trap : ℕ)
    (words words_then : WordMap) (context : Context) (sound : AreSound r) (is_head : r.head ≡ Some head) (is : IsIn r slot process) (of : IsOf context process.pid) (next : IsNext process after)
    (owners : ℕ → ℕ) (tables : (slot table word : ℕ) → ℕ) (mapped_then : is_mapped (prepared r owners tables) slot after ≡ true) (others : OthersStay r words slot (prepared r owners tables) words_then) where
  abbrev base : Records
  base = prepared r owners tables

  abbrev become : Records
  become = becoming base head slot process.pid after terms rows trap

  -- the state before, and the process after
  abbrev before : ℕ → Option Process
  before = processes_of r words context

  abbrev then_is : Process
  then_is = process_of base words_then slot after

  stays_mapped : (place : ℕ) (other : ProcRec) → is_mapped base place other ≡ true → is_mapped become place other ≡ true
  stays_mapped place other mapped = mapped_stays base (Some (record head { served = trap; last = process.pid })) (updated r.procs slot (Some after)) terms rows place other ∙ mapped

  here : process_at become words_then process.pid ≡ Some then_is
  unfolding pid_in
  here =
      let exit : slot_by (r.exits after.pid) ≡ Some slot = ap (λ (p : ℕ). slot_by (r.exits p)) next.pid ∙ sound.numbered.exit slot process is in
      let seat : pid_in become slot ≡ Some after.pid =
      pid_stays base (Some (record head { served = trap; last = process.pid })) (updated r.procs slot (Some after)) terms rows slot
      ∙ (pid_here r slot process sound.values sound.numbered is ∙ ap (λ (p : ℕ). Some p) (sym next.pid)) in
      let mapped : is_mapped become slot after ≡ true = stays_mapped slot after mapped_then in
      let decoded : process_at become words_then after.pid ≡ Some (process_of become words_then slot after) =
      decoded_at become words_then slot after exit seat (set_here r.procs slot (Some after)) (decodes_by become slot after refl next.live mapped) in
      subst (λ (p : ℕ). process_at become words_then p ≡ Some (process_of become words_then slot after)) next.pid decoded
      ∙ ap (λ (p : Process). Some p) (decoded_stays base (Some (record head { served = trap; last = process.pid })) (updated r.procs slot (Some after)) terms rows words_then slot after)

  there_too : (q : ℕ) → (live : Living r words q) → (q ≡ process.pid → ⊥) → process_at become words_then q ≡ process_at r words q
  unfolding pid_in
  there_too q live apart =
      let places : live.slot ≡ slot → ⊥ = λ same.
      apart (sound.numbered.one_slot q process.pid slot (subst (λ (k : ℕ). slot_by (r.exits q) ≡ Some k) same live.exit) (sound.numbered.exit slot process is)) in
      let exit : slot_by (r.exits live.process.pid) ≡ Some live.slot = ap (λ (p : ℕ). slot_by (r.exits p)) live.same ∙ live.exit in
      let seat : pid_in become live.slot ≡ Some live.process.pid =
      pid_stays base (Some (record head { served = trap; last = process.pid })) (updated r.procs slot (Some after)) terms rows live.slot
      ∙ pid_here r live.slot live.process sound.values sound.numbered live.is in
      let there : updated r.procs slot (Some after) live.slot ≡ Some live.process = set_other r.procs slot (Some after) live.slot places ∙ live.is.there in
      let decoded : process_at become words_then live.process.pid ≡ Some (process_of become words_then live.slot live.process) =
      decoded_at become words_then live.slot live.process exit seat there
      (decodes_by become live.slot live.process refl live.is.live (stays_mapped live.slot live.process (others.mapped live.slot live.process live.is places))) in
      subst (λ (p : ℕ). process_at become words_then p ≡ Some (process_of become words_then live.slot live.process)) live.same decoded
      ∙ (ap (λ (p : Process). Some p) (decoded_stays base (Some (record head { served = trap; last = process.pid })) (updated r.procs slot (Some after)) terms rows words_then live.slot live.process)
      ∙ (ap (λ (p : Process). Some p) (decoded_same r words base words_then refl live.slot live.process (others.pages live.slot live.process live.is places))
      ∙ sym live.decoded))

  others_stay : (q : ℕ) → (q ≡ process.pid → ⊥) → process_at become words_then q ≡ process_at r words q
  others_stay q apart = elim (living r words q sound) [
    | inl missing ↦ not_found become words_then q missing.exit ∙ sym missing.decoded
    | inr live ↦ there_too q live apart
  ]

  processes_then : (q : ℕ) → process_at become words_then q ≡ updated before process.pid (Some then_is) q
  processes_then q = elim (same_or_not q process.pid) [
    | inl equal ↦ subst (λ (k : ℕ). process_at become words_then k ≡ updated before process.pid (Some then_is) k) (sym equal) (here ∙ sym (set_here before process.pid (Some then_is)))
    | inr apart ↦ others_stay q apart ∙ (sym (others_are r words context process.pid q of apart) ∙ sym (set_other before process.pid (Some then_is) q apart))
  ]

  processes_are : processes_of become words_then InKernel ≡ updated before process.pid (Some then_is)
  unfolding processes_of
  processes_are = λ i q. processes_then q i

  caller : Process
  caller = record (process_of r words slot process) { bank = bank_by context process }

  caller_there : before process.pid ≡ Some caller
  unfolding caller
  caller_there = caller_decodes r words context slot process sound is of

  -- descriptions that are in use
  same_descriptors : then_is.descriptors ≡ caller.descriptors
  unfolding caller process_of
  same_descriptors = rw next.descs refl

  described_then : (number : ℕ) → in_use (updated before process.pid (Some then_is)) (λ n. description_by (r.descs n)) number ≡ in_use before (λ n. description_by (r.descs n)) number
  described_then number = in_use_still before process.pid caller then_is (λ n. description_by (r.descs n)) number caller_there same_descriptors

  -- ended children
  test_then : (q place : ℕ) → is_ended_as q (updated r.procs slot (Some after) place) ≡ is_ended_as q (r.procs place)
  test_then q place = elim (same_or_not place slot) [
    | inl equal ↦ subst (λ (k : ℕ). is_ended_as q (updated r.procs slot (Some after) k) ≡ is_ended_as q (r.procs k)) (sym equal)
        (ap (is_ended_as q) (set_here r.procs slot (Some after)) ∙ (live_not_ended after q next.live ∙ sym (ap (is_ended_as q) is.there ∙ live_not_ended process q is.live)))
    | inr apart ↦ ap (is_ended_as q) (set_other r.procs slot (Some after) place apart)
  ]

  child_then : (place : ℕ) → ended_by (updated before process.pid (Some then_is)) (updated r.procs slot (Some after) place) ≡ ended_by before (r.procs place)
  child_then place = elim (same_or_not place slot) [
    | inl equal ↦ subst (λ (k : ℕ). ended_by (updated before process.pid (Some then_is)) (updated r.procs slot (Some after) k) ≡ ended_by before (r.procs k)) (sym equal)
        (ap (ended_by (updated before process.pid (Some then_is))) (set_here r.procs slot (Some after))
        ∙ (child_of_it after process before process.pid caller then_is caller_there next.parent next.status ∙ sym (ap (ended_by before) is.there)))
    | inr apart ↦ ap (ended_by (updated before process.pid (Some then_is))) (set_other r.procs slot (Some after) place apart)
        ∙ child_same (r.procs place) before process.pid caller then_is caller_there
  ]

  ended_in_then : (held : Option ℕ) → ended_in become (updated before process.pid (Some then_is)) held ≡ ended_in r before held
  ended_in_then (Some place) = child_then place
  ended_in_then None = refl

  ended_then : (q : ℕ) → ended_of become (updated before process.pid (Some then_is)) q ≡ ended_of r before q
  unfolding ended_of
  ended_then q =
      let tests : (λ (place : ℕ). is_ended_as q (updated r.procs slot (Some after) place)) ≡ (λ (place : ℕ). is_ended_as q (r.procs place)) = λ i place. test_then q place i in
      ap (λ (test : ℕ → Bool). ended_in become (updated before process.pid (Some then_is)) (least_from test 0 16)) tests
      ∙ ended_in_then (least_from (λ place. is_ended_as q (r.procs place)) 0 16)

  ended_all : ended_of become (processes_of become words_then InKernel) ≡ ended_of r before
  ended_all = ap (ended_of become) processes_are ∙ (λ i q. ended_then q i)

  described_all : (number : ℕ) → in_use (processes_of become words_then InKernel) (λ n. description_by (r.descs n)) number ≡ in_use before (λ n. description_by (r.descs n)) number
  described_all number = ap (λ (ps : ℕ → Option Process). in_use ps (λ n. description_by (r.descs n)) number) processes_are ∙ described_then number

  next_is : head.next ≡ next_by r.head
  next_is = sym (ap next_by is_head)

  -- the state that the records then stand for, with these tapes
  pub becomes_then : (tapes then_tapes : ℕ → List ℕ) (steps traps : ℕ)
      → unix_of (becoming (prepared r owners tables) head slot process.pid after terms rows trap) words_then then_tapes InKernel (steps + 1) (traps + 1)
      ≡ record (with_process (trapped (unix_of r words tapes context steps traps) process.pid) process.pid (process_of (prepared r owners tables) words_then slot after))
      { terminals = λ tty. terminal_by (then_tapes tty) (terms tty) }
  unfolding unix_of trapped
  becomes_then tapes then_tapes steps traps = λ i. record {
    processes = processes_are i;
    ended = λ q. ended_all i q;
    descriptions = λ number. described_all number i;
    files = λ _. None;
    room = r.map.user_frames;
    terminals = λ tty. terminal_by (then_tapes tty) (terms tty);
    exits = λ pid. status_by (r.exits pid);
    next_pid = next_is i;
    last_pid = process.pid;
    steps = steps + 1;
    traps = traps + 1;
    position = AtKernel;
  }

-- the same where no page becomes another
module _ (r : Records) (head : HeadRec) (slot : ℕ) (process after : ProcRec) (terms : ℕ → Option TermRec) (rows : ℕ → Option RowRec) (trap : ℕ)
    (words : WordMap) (context : Context) (sound : AreSound r) (is_head : r.head ≡ Some head) (is : IsIn r slot process) (of : IsOf context process.pid) (next : IsAfter process after) where
  pub becomes : (tapes then_tapes : ℕ → List ℕ) (steps traps : ℕ)
      → unix_of (becoming r head slot process.pid after terms rows trap) words then_tapes InKernel (steps + 1) (traps + 1)
      ≡ record (with_process (trapped (unix_of r words tapes context steps traps) process.pid) process.pid (process_of r words slot after))
      { terminals = λ tty. terminal_by (then_tapes tty) (terms tty) }
  becomes tapes then_tapes steps traps =
      becomes_then r head slot process after terms rows trap words words context sound is_head is of (next_of process after next) r.owners r.table_words
      (mapped_same r slot after process next.regions ∙ sound.mapped.mapped slot process is)
      (record { mapped = λ place other there apart. sound.mapped.mapped place other there; pages = λ place other there apart. refl })
      tapes then_tapes steps traps
