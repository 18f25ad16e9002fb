-- Which processes can run, by records and in the Unix.
use Rattle.std.proofs.Common.{◌≡◌, ◌≢◌, ◌⊎◌, ◌==◌, ◌||◌, ℕ, zero, suc, ◌+◌, ◌-◌, ◌%◌, ◌<◌, ◌≤◌, Bool, true, false, not, List, [], ◌∷◌, map, Option, Some, None, IfSome, is_some, slice_index, slice_get, inl, inr, refl, sym, ap, subst, ◌∙◌, arith}
use Rattle.std.proofs.lemmas.Bool.{cases_Bool}
use Rattle.std.proofs.lemmas.Bool.Decides.{nat_tests}
use Rattle.ow_base.specs.Sv32.{WordMap}
use Rattle.ow_base.specs.UserStep.{register}
use Rattle.ow_base.specs.declared.machine.Now.{Now}
use Rattle.record_layouts.specs.declared.places.RecordId.TheVariants as id
use Rattle.record_layouts.specs.declared.proc.ProcRec.{ProcRec}
use Rattle.record_layouts.specs.declared.sig.SigRec.{SigRec}
use Rattle.record_layouts.specs.declared.desc.DescRec.{DescRec}
use Rattle.record_layouts.specs.declared.term.TermRec.{TermRec}
use Rattle.record_layouts.specs.Unix.State.{Process, in_use, is_named, is_named_by, is_among, is_this}
use Rattle.record_layouts.specs.Unix.Calls.{description_of}
use Rattle.record_layouts.specs.Unix.Children.{has_child, has_ended_child, is_child_of, is_ended_child_of}
use Rattle.record_layouts.specs.Unix.Choice.{least_from, is_any, deliverable, read_goes_on, goes_on}
use Rattle.record_layouts.specs.Held.{Records}
use Rattle.record_layouts.specs.Pages.{is_live}
use Rattle.record_layouts.specs.Desc.{FitsDesc}
use Rattle.record_layouts.specs.Proc.{FitsProc, FitsEnded}
use Rattle.record_layouts.specs.Decode.{InKernel, descriptor_of, is_pending, process_of, process_at, processes_of, is_ended_as, ended_by, ended_in, ended_of, description_by, unix_of}
use Rattle.record_layouts.specs.Sound.{IsIn, IsTransfer, AreNumbered, AreSound}
use Rattle.process_table.specs.Slots.{has_such, is_live_child, is_ended_child}
use Rattle.process_table.specs.Choosing.{keys_of, next_signal, signal_by, read_by, named_by, description_in, wait_goes_on, call_goes_on}
use Rattle.process_table.specs.Least.{NonePasses}
use Rattle.process_table.proofs.Least.{least_found, least_passes, least_within, any_found, any_passing, Passing}
use Rattle.process_table.proofs.Holding.{such_found, such_passing}
use Rattle.process_table.proofs.EndedUnix.{ended_there}
use Rattle.process_table.proofs.Seats.{Missing, Living, living, found_in, pid_range}

-- two tests of which each follows from the other
pub same_tests : (a b : Bool) → (a ≡ true → b ≡ true) → (b ≡ true → a ≡ true) → a ≡ b
same_tests true b there back = sym (there refl)
same_tests false true there back = back refl
same_tests false false there back = refl

-- the signal that goes next
pub signal_is : (r : Records) (words : WordMap) (slot : ℕ) (process : ProcRec) (signals : SigRec) → r.sigs slot ≡ Some signals
    → deliverable (process_of r words slot process) ≡ signal_by process (r.sigs slot)
unfolding deliverable process_of next_signal
signal_is r words slot process signals there = rw there (elim (cases_Bool (is_pending (Some signals) 9)) [
  | inl kill ↦ rw kill refl
  | inr other ↦ rw other (elim (cases_Bool (process.flags % 2 == 1)) [ inl runs ↦ rw runs refl | inr quiet ↦ rw quiet refl ])
])

descriptor_is : (word : ℕ) → word ≢ 0 → descriptor_of word ≡ Some (word - 1)
descriptor_is word named = elim (cases_Bool (word == 0)) [
  | inl none ↦ let equal : word ≡ 0 = grind (arith, nat_tests) in absurd (named equal)
  | inr some ↦ rw some refl
]

zero_not : (word : ℕ) → word ≢ 0 → (word == 0) ≡ false
zero_not word named = elim (cases_Bool (word == 0)) [
  | inl none ↦ let equal : word ≡ 0 = grind (arith, nat_tests) in absurd (named equal)
  | inr some ↦ some
]

or_true : (a b : Bool) → b ≡ true → (a || b) ≡ true
or_true true b there = refl
or_true false b there = there

-- a descriptor that is not 0 is found
descriptor_there : (words : List ℕ) (fd : ℕ) → slice_index words fd ≢ 0 → slice_get (map descriptor_of words) fd ≡ Some (Some (slice_index words fd - 1))
descriptor_there [] fd named = absurd (named refl)
descriptor_there (word ∷ words) zero named = ap (λ (o : Option ℕ). Some o) (descriptor_is word named)
descriptor_there (word ∷ words) (suc fd) named = descriptor_there words fd named

among_there : (ds : List (Option ℕ)) (fd number : ℕ) → slice_get ds fd ≡ Some (Some number) → is_among number ds ≡ true
unfolding is_among
among_there [] fd number there = cc
among_there (d ∷ ds) zero number there =
    let same : d ≡ Some number = cc in
    let test : is_this d number ≡ true = ap (λ (o : Option ℕ). is_this o number) same ∙ grind (arith, nat_tests) in
    rw test refl
among_there (d ∷ ds) (suc fd) number there = or_true (is_this d number) (is_among number ds) (among_there ds fd number there)

named_there : (ps : ℕ → Option Process) (number first count k end : ℕ) → end ≡ first + count → first ≤ k → k < end → is_named_by number (ps k) ≡ true → is_named ps number first count ≡ true
unfolding is_named
named_there ps number first zero k end sum from to named = absurd (omega arith)
named_there ps number first (suc count) k end sum from to named = elim (cases_Bool (is_named_by number (ps first))) [
  | inl here ↦ rw here refl
  | inr missing ↦
      let later : first + 1 ≤ k = grind arith in
      rw missing (named_there ps number (first + 1) count k end (omega arith) later to named)
]

-- a terminal that is open to a read
record IsTty (d : DescRec) : Type 0 where
  pub zero : (d.object == 0) ≡ false
  pub one : (d.object == 1) ≡ false
  pub two : (d.object == 2) ≡ true
  pub index : d.index < 2

is_tty : (r : Records) (process : ProcRec) (d : DescRec) → FitsDesc d → IsTransfer r process 1 d → d.object ≢ 1 → IsTty d
is_tty r process d fits transfer no_file = elim fits [
  | inl closed ↦ absurd (elim transfer.allowed [ inl one ↦ omega (arith, one, closed.mode) | inr three ↦ omega (arith, three, closed.mode) ])
  | inr opened ↦ elim opened [
    | inl file ↦ absurd (no_file file.object)
    | inr tty ↦
        let object : d.object ≡ 2 = tty.object in
        record { zero = grind (arith, nat_tests); one = grind (arith, nat_tests); two = grind (arith, nat_tests); index = omega (arith, tty.index) }
  ]
]

-- a record that decodes
pub the_record : {V : Type 0} (held : Option V) → is_some held ≡ true → (value : V) × (held ≡ Some value)
the_record (Some value) there = (value, refl)
the_record None there = absurd (cc there)

-- what can be read from a terminal
tty_is : (r : Records) (words : WordMap) (tapes : ℕ → List ℕ) (steps traps : ℕ) (now : Now) (d : DescRec) (t : TermRec) → IsTty d → r.terms d.index ≡ Some t
    → read_goes_on (keys_of now) (unix_of r words tapes InKernel steps traps) (description_by (Some d)) ≡ read_by r now (Some d)
unfolding unix_of
tty_is r words tapes steps traps now d t is there = rw (is.zero, is.one, is.two) (rw there refl)

-- the description that a process in a read has in a0
description_is : (r : Records) (words : WordMap) (tapes : ℕ → List ℕ) (steps traps : ℕ) (slot : ℕ) (process : ProcRec) (d : DescRec) → AreSound r → IsIn r slot process → IsTransfer r process 1 d
    → description_of (unix_of r words tapes InKernel steps traps) (process_of r words slot process) (register process.regs 10) ≡ description_by (Some d)
unfolding unix_of processes_of description_of process_of in_use
description_is r words tapes steps traps slot process d sound is transfer =
    let word = slice_index process.descs (register process.regs 10) in
    let ps = process_at r words in
    let range = pid_range r slot process sound.values is in
    let found : slice_get (map descriptor_of process.descs) (register process.regs 10) ≡ Some (Some (word - 1)) = descriptor_there process.descs (register process.regs 10) transfer.named in
    let among : is_among (word - 1) (map descriptor_of process.descs) ≡ true = among_there (map descriptor_of process.descs) (register process.regs 10) (word - 1) found in
    let one : is_named_by (word - 1) (ps process.pid) ≡ true = ap (is_named_by (word - 1)) (found_in r words slot process sound is) ∙ among in
    let named : is_named ps (word - 1) 1 256 ≡ true = named_there ps (word - 1) 1 256 process.pid 257 refl range.0 (omega (arith, range.1)) one in
    rw found (rw named (ap description_by transfer.there))

read_is : (r : Records) (words : WordMap) (tapes : ℕ → List ℕ) (steps traps : ℕ) (now : Now) (slot : ℕ) (process : ProcRec) (d : DescRec) → AreSound r → IsIn r slot process
    → IsTransfer r process 1 d → d.object ≢ 1
    → read_goes_on (keys_of now) (unix_of r words tapes InKernel steps traps) (description_of (unix_of r words tapes InKernel steps traps) (process_of r words slot process) (register process.regs 10))
    ≡ read_by r now (description_in r process)
unfolding description_in
read_is r words tapes steps traps now slot process d sound is transfer no_file =
    let u = unix_of r words tapes InKernel steps traps in
    let word = slice_index process.descs (register process.regs 10) in
    let fits : FitsDesc d = subst (λ (o : Option DescRec). IfSome o FitsDesc) transfer.there (sound.values (id.Desc (word - 1))) in
    let tty : IsTty d = is_tty r process d fits transfer no_file in
    let term = the_record (r.terms d.index) (sound.complete (id.Term d.index) tty.index) in
    let some : (word == 0) ≡ false = zero_not word transfer.named in
    let named : named_by r word ≡ Some d = rw some transfer.there in
    ap (read_goes_on (keys_of now) u) (description_is r words tapes steps traps slot process d sound is transfer)
    ∙ (tty_is r words tapes steps traps now d term.0 tty term.1 ∙ ap (read_by r now) (sym named))

-- an ended child, by the Unix and by records
child_record : (ps : ℕ → Option Process) (parent : ℕ) (held : Option ProcRec) (pid : ℕ) → is_ended_child_of parent (ended_by ps held) ≡ true → is_ended_as pid held ≡ true → is_ended_child parent held ≡ true
child_record ps parent (Some process) pid child ended = elim (cases_Bool (is_some (ps process.parent))) [
  | inl live ↦ let own : (process.parent == parent) ≡ true = rw live at child in grind (arith, nat_tests, own, ended)
  | inr dead ↦ absurd (cc (rw dead at child))
]
child_record ps parent None pid child ended = absurd (cc ended)

child_found : (r : Records) (ps : ℕ → Option Process) (parent pid : ℕ) (found : Option ℕ) → least_from (λ k. is_ended_as pid (r.procs k)) 0 16 ≡ found
    → is_ended_child_of parent (ended_in r ps found) ≡ true → has_such r (is_ended_child parent) ≡ true
child_found r ps parent pid None there child = absurd (cc child)
child_found r ps parent pid (Some place) there child =
    let ended : is_ended_as pid (r.procs place) ≡ true = least_passes (λ k. is_ended_as pid (r.procs k)) 0 16 place there in
    let within : place < 16 = omega (arith, least_within (λ k. is_ended_as pid (r.procs k)) 0 16 place there) in
    such_found r (is_ended_child parent) place within (child_record ps parent (r.procs place) pid child ended)

-- the record of an ended child
record Child (r : Records) (parent place : ℕ) : Type 0 where
  pub process : ProcRec
  pub there : r.procs place ≡ Some process
  pub state : process.state ≡ 3
  pub parent_is : process.parent ≡ parent

ended_child : (r : Records) (parent place : ℕ) (held : Option ProcRec) → r.procs place ≡ held → is_ended_child parent held ≡ true → Child r parent place
ended_child r parent place (Some process) there child = record { process = process; there = there; state = grind (arith, nat_tests, child); parent_is = grind (arith, nat_tests, child) }
ended_child r parent place None there child = absurd (cc child)

-- a record of an ended process is found by its pid
pub ended_place : (r : Records) (place : ℕ) (process : ProcRec) → AreNumbered r → place < 16 → r.procs place ≡ Some process → process.state ≡ 3
    → least_from (λ k. is_ended_as process.pid (r.procs k)) 0 16 ≡ Some place
ended_place r place process numbered within there state =
    let passes : is_ended_as process.pid (r.procs place) ≡ true = ap (is_ended_as process.pid) there ∙ grind (arith, nat_tests, state) in
    let below : NonePasses (λ k. is_ended_as process.pid (r.procs k)) 0 place = record {
      none = λ k from less. elim (cases_Bool (is_ended_as process.pid (r.procs k))) [
        | inl ended ↦
            let other = ended_there (r.procs k) process.pid ended in
            let same : k ≡ place = numbered.one_ended k place other.0 process other.1 there other.2 state other.3 in
            absurd (omega (arith, same, less))
        | inr none ↦ none
      ];
    } in
    least_found (λ k. is_ended_as process.pid (r.procs k)) 0 16 16 place refl (record { from = omega arith; to = within; passes = passes; below = below })

-- a child that has ended, in the Unix and by records
ended_child_is : (r : Records) (words : WordMap) (tapes : ℕ → List ℕ) (steps traps : ℕ) (slot : ℕ) (process : ProcRec) → AreSound r → IsIn r slot process
    → has_ended_child (unix_of r words tapes InKernel steps traps) process.pid ≡ has_such r (is_ended_child process.pid)
unfolding has_ended_child unix_of processes_of ended_of
ended_child_is r words tapes steps traps slot process sound is =
    let ps = process_at r words in
    let place_of = λ (pid : ℕ). least_from (λ k. is_ended_as pid (r.procs k)) 0 16 in
    let test = λ (pid : ℕ). is_ended_child_of process.pid (ended_in r ps (place_of pid)) in
    same_tests (is_any test 1 256) (has_such r (is_ended_child process.pid))
    (λ any.
    let passing : Passing test 1 257 = any_passing test 1 256 257 refl any in
    child_found r ps process.pid passing.number (place_of passing.number) refl passing.passes)
    (λ such.
    let passing : Passing (λ k. is_ended_child process.pid (r.procs k)) 0 16 = such_passing r (is_ended_child process.pid) such in
    let child : Child r process.pid passing.number = ended_child r process.pid passing.number (r.procs passing.number) refl passing.passes in
    let fits : FitsProc child.process = subst (λ (o : Option ProcRec). IfSome o FitsProc) child.there (sound.values (id.Proc passing.number)) in
    let ended : FitsEnded child.process = fits.ended child.state in
    let place : place_of child.process.pid ≡ Some passing.number = ended_place r passing.number child.process sound.numbered passing.to child.there child.state in
    let live : is_some (ps child.process.parent) ≡ true =
    subst (λ (k : ℕ). is_some (ps k) ≡ true) (sym child.parent_is) (ap is_some (found_in r words slot process sound is)) in
    let own : (child.process.parent == process.pid) ≡ true = grind (arith, nat_tests, child.parent_is) in
    let by_record : is_ended_child_of process.pid (ended_by ps (Some child.process)) ≡ true = rw live own in
    let passes : test child.process.pid ≡ true =
    ap (λ (o : Option ℕ). is_ended_child_of process.pid (ended_in r ps o)) place ∙ (ap (λ (o : Option ProcRec). is_ended_child_of process.pid (ended_by ps o)) child.there ∙ by_record) in
    any_found test 1 256 257 child.process.pid refl ended.pid.0 (omega (arith, ended.pid.1)) passes)

-- a live child
live_child : (r : Records) (parent place : ℕ) (held : Option ProcRec) → place < 16 → r.procs place ≡ held → is_live_child parent held ≡ true
    → (process : ProcRec) × (IsIn r place process) × (process.parent ≡ parent)
live_child r parent place (Some process) within there child = elim (cases_Bool (is_live process)) [
  | inl live ↦ (process, record { within = within; there = there; live = live }, grind (arith, nat_tests, child, live))
  | inr dead ↦ absurd (cc (rw dead at child))
]
live_child r parent place None within there child = absurd (cc child)

child_by_living : (r : Records) (words : WordMap) (parent pid : ℕ) (held : Option Process) → Missing r words pid ⊎ Living r words pid → process_at r words pid ≡ held → is_child_of parent held ≡ true
    → has_such r (is_live_child parent) ≡ true
unfolding process_of
child_by_living r words parent pid None who same child = absurd (cc child)
child_by_living r words parent pid (Some p) (inl missing) same child = absurd (cc (sym missing.decoded ∙ same))
child_by_living r words parent pid (Some p) (inr live) same child =
    let both : Some (process_of r words live.slot live.process) ≡ Some p = sym live.decoded ∙ same in
    let equal : process_of r words live.slot live.process ≡ p = cc in
    let own : (live.process.parent == parent) ≡ true = ap (λ (x : Process). x.parent == parent) equal ∙ child in
    let passes : is_live_child parent (r.procs live.slot) ≡ true = ap (is_live_child parent) live.is.there ∙ rw live.is.live own in
    such_found r (is_live_child parent) live.slot live.is.within passes

pub child_is : (r : Records) (words : WordMap) (tapes : ℕ → List ℕ) (steps traps : ℕ) (parent : ℕ) → AreSound r
    → has_child (unix_of r words tapes InKernel steps traps) parent ≡ has_such r (is_live_child parent)
unfolding has_child unix_of processes_of process_of
child_is r words tapes steps traps parent sound =
    let test = λ (pid : ℕ). is_child_of parent (process_at r words pid) in
    same_tests (is_any test 1 256) (has_such r (is_live_child parent))
    (λ any.
    let passing : Passing test 1 257 = any_passing test 1 256 257 refl any in
    child_by_living r words parent passing.number (process_at r words passing.number) (living r words passing.number sound) refl passing.passes)
    (λ such.
    let passing : Passing (λ k. is_live_child parent (r.procs k)) 0 16 = such_passing r (is_live_child parent) such in
    let child = live_child r parent passing.number (r.procs passing.number) passing.to refl passing.passes in
    let range = pid_range r passing.number child.0 sound.values child.1 in
    let own : (child.0.parent == parent) ≡ true = grind (arith, nat_tests, child.2) in
    let passes : test child.0.pid ≡ true = ap (is_child_of parent) (found_in r words passing.number child.0 sound child.1) ∙ own in
    any_found test 1 256 257 child.0.pid refl range.0 (omega (arith, range.1)) passes)

wait_is : (r : Records) (words : WordMap) (tapes : ℕ → List ℕ) (steps traps : ℕ) (slot : ℕ) (process : ProcRec) → AreSound r → IsIn r slot process
    → (has_ended_child (unix_of r words tapes InKernel steps traps) process.pid || not (has_child (unix_of r words tapes InKernel steps traps) process.pid)) ≡ wait_goes_on r process.pid
unfolding wait_goes_on
wait_is r words tapes steps traps slot process sound is =
    rw (ended_child_is r words tapes steps traps slot process sound is) (rw (child_is r words tapes steps traps process.pid sound) refl)

-- a call in progress
pub call_is : (r : Records) (words : WordMap) (tapes : ℕ → List ℕ) (steps traps : ℕ) (now : Now) (slot : ℕ) (process : ProcRec) → AreSound r → IsIn r slot process → process.state ≡ 2
    → goes_on (keys_of now) (unix_of r words tapes InKernel steps traps) process.pid (process_of r words slot process) process.call ≡ call_goes_on r now process
unfolding goes_on call_goes_on process_of
call_is r words tapes steps traps now slot process sound is state = elim (sound.in_calls.calls slot process is state) [
  | inl write ↦ let two : (process.call == 2) ≡ true = grind (arith, nat_tests, write.0) in rw two refl
  | inr rest ↦ elim rest [
    | inl read ↦
        let two : (process.call == 2) ≡ false = grind (arith, nat_tests, read.0) in
        let three : (process.call == 3) ≡ true = grind (arith, nat_tests, read.0) in
        rw (two, three) (read_is r words tapes steps traps now slot process read.2.0 sound is read.2.1 read.2.2)
    | inr wait ↦
        let two : (process.call == 2) ≡ false = grind (arith, nat_tests, wait.0) in
        let three : (process.call == 3) ≡ false = grind (arith, nat_tests, wait.0) in
        let ten : (process.call == 10) ≡ true = grind (arith, nat_tests, wait.0) in
        rw (two, three, ten) (wait_is r words tapes steps traps slot process sound is)
  ]
]

-- a signal that goes next is one of 1 to 15
pub signal_range : (process : ProcRec) (signals : SigRec) (signal : ℕ) → next_signal process signals ≡ Some signal → (1 ≤ signal) × (signal < 16)
unfolding next_signal
signal_range process signals signal next = elim (cases_Bool (is_pending (Some signals) 9)) [
  | inl kill ↦
      let nine : Some 9 ≡ Some signal = rw kill at next in
      let same : 9 ≡ signal = cc in
      (omega (arith, same), omega (arith, same))
  | inr other ↦ elim (cases_Bool (process.flags % 2 == 1)) [
    | inl runs ↦
        let none : None ≡ Some signal = rw runs at (rw other at next) in
        absurd (cc none)
    | inr quiet ↦
        let found : least_from (is_pending (Some signals)) 1 15 ≡ Some signal = rw quiet at (rw other at next) in
        let within = least_within (is_pending (Some signals)) 1 15 signal found in
        (within.0, omega (arith, within.1))
  ]
]
