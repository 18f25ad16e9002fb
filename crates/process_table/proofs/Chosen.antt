-- The process that is chosen by records is the one that the Unix chooses.
use Rattle.std.proofs.Common.{◌≡◌, ◌⊎◌, ◌==◌, ◌&&◌, ◌||◌, ℕ, zero, suc, ◌+◌, ◌-◌, ◌<◌, ◌≤◌, Bool, true, false, nat_lt, List, Option, Some, None, is_some, inl, inr, refl, sym, ap, subst, ◌∙◌, arith}
use Rattle.std.proofs.lemmas.Bool.{cases_Bool}
use Rattle.std.proofs.lemmas.Bool.Decides.{nat_tests}
use Rattle.ow_base.specs.Sv32.{WordMap}
use Rattle.ow_base.specs.declared.machine.Now.{Now}
use Rattle.record_layouts.specs.declared.head.HeadRec.{HeadRec}
use Rattle.record_layouts.specs.declared.proc.ProcRec.{ProcRec}
use Rattle.record_layouts.specs.Unix.State.{most_pids, Process}
use Rattle.record_layouts.specs.Unix.Choice.{least_from, or_else, deliverable, can_run, is_runnable, chosen, live_or, has_live_process, is_any_live}
use Rattle.record_layouts.specs.Held.{Records}
use Rattle.record_layouts.specs.Pages.{is_live}
use Rattle.record_layouts.specs.Decode.{InKernel, call_of, process_of, process_at, processes_of, last_by, unix_of}
use Rattle.record_layouts.specs.Sound.{IsIn, AreSound}
use Rattle.process_table.specs.Choosing.{keys_of, signal_by, is_runnable_in, is_ready, is_ready_one, pid_by, call_goes_on, IsNext, IsNone, IsChosen, last_pid}
use Rattle.process_table.specs.Slots.{has_such, is_live_one}
use Rattle.process_table.specs.Least.{IsLeast, NonePasses}
use Rattle.process_table.proofs.Least.{least_found, least_none}
use Rattle.process_table.proofs.Least.{Passing}
use Rattle.process_table.proofs.Holding.{such_found, such_passing}
use Rattle.process_table.proofs.Seats.{Missing, Living, living, found_in, pid_range}
use Rattle.process_table.proofs.Running.{signal_is, call_is, same_tests}

can_is : (r : Records) (words : WordMap) (tapes : ℕ → List ℕ) (steps traps : ℕ) (now : Now) (slot : ℕ) (process : ProcRec) → AreSound r → IsIn r slot process
    → can_run (keys_of now) (unix_of r words tapes InKernel steps traps) process.pid (process_of r words slot process) (call_of process) ≡ (process.state == 1 || call_goes_on r now process)
can_is r words tapes steps traps now slot process sound is = elim (cases_Bool (process.state == 2)) [
  | inl call ↦
      let two : process.state ≡ 2 = grind (arith, nat_tests, call) in
      let one : (process.state == 1) ≡ false = grind (arith, nat_tests, two) in
      rw (call, one) (call_is r words tapes steps traps now slot process sound is two)
  | inr out ↦
      let one : (process.state == 1) ≡ true = grind (arith, nat_tests, out, is.live) in
      rw (out, one) refl
]

pub runnable_is : (r : Records) (words : WordMap) (tapes : ℕ → List ℕ) (steps traps : ℕ) (now : Now) (slot : ℕ) (process : ProcRec) → AreSound r → IsIn r slot process
    → is_runnable (keys_of now) (unix_of r words tapes InKernel steps traps) process.pid (Some (process_of r words slot process)) ≡ is_runnable_in r now slot process
unfolding process_of
runnable_is r words tapes steps traps now slot process sound is =
    let held = sound.numbered.signals slot process is in
    let signal : deliverable (process_of r words slot process) ≡ signal_by process (r.sigs slot) = signal_is r words slot process held.0 held.1 in
    let can = can_is r words tapes steps traps now slot process sound is in
    ap (λ (s : Option ℕ). is_some s || can_run (keys_of now) (unix_of r words tapes InKernel steps traps) process.pid (process_of r words slot process) (call_of process)) signal
    ∙ ap (λ (c : Bool). is_some (signal_by process (r.sigs slot)) || c) can

-- what it says that a slot is ready
record Ready (r : Records) (now : Now) (above slot : ℕ) (process : ProcRec) : Type 0 where
  pub is : IsIn r slot process
  pub over : above < process.pid
  pub can : is_runnable_in r now slot process ≡ true

-- a test of three parts
all_three : (a b c : Bool) → (a && (b && c)) ≡ true → (a ≡ true) × (b ≡ true) × (c ≡ true)
all_three true true true all = (refl, refl, refl)
all_three true true false all = absurd (cc all)
all_three true false c all = absurd (cc all)
all_three false b c all = absurd (cc all)

ready_one : (r : Records) (now : Now) (above slot : ℕ) (held : Option ProcRec) → slot < 16 → r.procs slot ≡ held → is_ready_one r now above slot held ≡ true
    → (process : ProcRec) × (Ready r now above slot process)
ready_one r now above slot (Some process) within there ready =
    let parts = all_three (nat_lt above process.pid) (is_live process) (is_runnable_in r now slot process) ready in
    (process, record { is = record { within = within; there = there; live = parts.1 }; over = grind (arith, nat_tests, parts.0); can = parts.2 })
ready_one r now above slot None within there ready = absurd (cc ready)

ready_parts : (r : Records) (now : Now) (above slot : ℕ) → slot < 16 → is_ready r now above slot ≡ true → (process : ProcRec) × (Ready r now above slot process)
unfolding is_ready
ready_parts r now above slot within ready = ready_one r now above slot (r.procs slot) within refl ready

ready_whole : (r : Records) (now : Now) (above slot : ℕ) (process : ProcRec) → Ready r now above slot process → is_ready r now above slot ≡ true
unfolding is_ready
ready_whole r now above slot process ready =
    let over : nat_lt above process.pid ≡ true = grind (arith, nat_tests, ready.over) in
    let live : is_live process ≡ true = ready.is.live in
    ap (is_ready_one r now above slot) ready.is.there ∙ rw over (rw live ready.can)

-- who passes the test of the Unix is ready by records
unix_ready : (r : Records) (words : WordMap) (tapes : ℕ → List ℕ) (steps traps : ℕ) (now : Now) (above k : ℕ) (held : Option Process) → AreSound r → above < k
    → Missing r words k ⊎ Living r words k → process_at r words k ≡ held → is_runnable (keys_of now) (unix_of r words tapes InKernel steps traps) k held ≡ true
    → (slot : ℕ) × (process : ProcRec) × (Ready r now above slot process) × (process.pid ≡ k)
unix_ready r words tapes steps traps now above k None sound over who same can = absurd (cc can)
unix_ready r words tapes steps traps now above k (Some p) sound over (inl missing) same can = absurd (cc (sym missing.decoded ∙ same))
unix_ready r words tapes steps traps now above k (Some p) sound over (inr live) same can =
    let u = unix_of r words tapes InKernel steps traps in
    let both : Some p ≡ Some (process_of r words live.slot live.process) = sym same ∙ live.decoded in
    let runs : is_runnable (keys_of now) u k (Some (process_of r words live.slot live.process)) ≡ true =
    subst (λ (o : Option Process). is_runnable (keys_of now) u k o ≡ true) both can in
    let runs_too : is_runnable (keys_of now) u live.process.pid (Some (process_of r words live.slot live.process)) ≡ true =
    subst (λ (j : ℕ). is_runnable (keys_of now) u j (Some (process_of r words live.slot live.process)) ≡ true) (sym live.same) runs in
    let by_records : is_runnable_in r now live.slot live.process ≡ true =
    sym (runnable_is r words tapes steps traps now live.slot live.process sound live.is) ∙ runs_too in
    (live.slot, live.process, record { is = live.is; over = omega (arith, live.same, over); can = by_records }, live.same)

-- the test of the Unix
abbrev test_of : Records → WordMap → (ℕ → List ℕ) → (steps traps : ℕ) → Now → (pid : ℕ) → Bool
test_of r words tapes steps traps now pid = is_runnable (keys_of now) (unix_of r words tapes InKernel steps traps) pid (process_at r words pid)

none_passes : (r : Records) (words : WordMap) (tapes : ℕ → List ℕ) (steps traps : ℕ) (now : Now) (above end : ℕ) → AreSound r → IsNone r now above
    → NonePasses (test_of r words tapes steps traps now) (above + 1) end
none_passes r words tapes steps traps now above end sound none = record {
  none = λ k from to. elim (cases_Bool (test_of r words tapes steps traps now k)) [
    | inl can ↦
        let ready = unix_ready r words tapes steps traps now above k (process_at r words k) sound (omega (arith, from)) (living r words k sound) refl can in
        absurd (cc (sym (none.none ready.0 ready.2.is.within) ∙ ready_whole r now above ready.0 ready.1 ready.2))
    | inr no_one ↦ no_one
  ];
}

least_is : (r : Records) (words : WordMap) (tapes : ℕ → List ℕ) (steps traps : ℕ) (now : Now) (above slot end : ℕ) (process : ProcRec) → AreSound r → IsNext r now above slot
    → r.procs slot ≡ Some process → process.pid < end → IsLeast (test_of r words tapes steps traps now) (above + 1) end process.pid
least_is r words tapes steps traps now above slot end process sound next there before =
    let found = ready_parts r now above slot next.within next.ready in
    let both : Some found.0 ≡ Some process = sym found.1.is.there ∙ there in
    let same : found.0 ≡ process = cc in
    let ready : Ready r now above slot process = subst (λ (p : ProcRec). Ready r now above slot p) same found.1 in
    let pid : pid_by (r.procs slot) ≡ process.pid = ap pid_by there in
    let passes : test_of r words tapes steps traps now process.pid ≡ true =
    ap (is_runnable (keys_of now) (unix_of r words tapes InKernel steps traps) process.pid) (found_in r words slot process sound ready.is)
    ∙ (runnable_is r words tapes steps traps now slot process sound ready.is ∙ ready.can) in
    let below : NonePasses (test_of r words tapes steps traps now) (above + 1) process.pid = record {
      none = λ k from less.
          elim (cases_Bool (test_of r words tapes steps traps now k)) [
            | inl can ↦
                let other = unix_ready r words tapes steps traps now above k (process_at r words k) sound (omega (arith, from)) (living r words k sound) refl can in
                let least : pid_by (r.procs slot) ≤ pid_by (r.procs other.0) = next.least other.0 other.2.is.within (ready_whole r now above other.0 other.1 other.2) in
                let other_pid : pid_by (r.procs other.0) ≡ other.1.pid = ap pid_by other.2.is.there in
                absurd (omega (arith, least, pid, other_pid, other.3, less))
            | inr no_one ↦ no_one
          ];
    } in
    record { from = omega (arith, ready.over); to = before; passes = passes; below = below }

last_same : (head : Option HeadRec) → last_by head InKernel ≡ last_pid head
last_same (Some head) = refl
last_same None = refl

-- the least above a pid, and none above it
found_above : (r : Records) (words : WordMap) (tapes : ℕ → List ℕ) (steps traps : ℕ) (now : Now) (above slot : ℕ) (process : ProcRec) → AreSound r → IsNext r now above slot
    → r.procs slot ≡ Some process → least_from (test_of r words tapes steps traps now) (above + 1) (most_pids - above) ≡ Some process.pid
found_above r words tapes steps traps now above slot process sound next there =
    let found = ready_parts r now above slot next.within next.ready in
    let both : Some found.0 ≡ Some process = sym found.1.is.there ∙ there in
    let same : found.0 ≡ process = cc in
    let is : IsIn r slot process = subst (λ (p : ProcRec). IsIn r slot p) same found.1.is in
    let over : above < process.pid = subst (λ (p : ProcRec). above < p.pid) same found.1.over in
    let most : process.pid ≤ 256 = (pid_range r slot process sound.values is).1 in
    least_found (test_of r words tapes steps traps now) (above + 1) (most_pids - above) 257 process.pid (omega (arith, over, most))
    (least_is r words tapes steps traps now above slot 257 process sound next there (omega (arith, most)))

none_above : (r : Records) (words : WordMap) (tapes : ℕ → List ℕ) (steps traps : ℕ) (now : Now) (above count : ℕ) → AreSound r → IsNone r now above
    → least_from (test_of r words tapes steps traps now) (above + 1) count ≡ None
none_above r words tapes steps traps now above count sound none =
    least_none (test_of r words tapes steps traps now) (above + 1) count (above + 1 + count) refl (none_passes r words tapes steps traps now above (above + 1 + count) sound none)

-- none can run with a pid above another, where none can at all
none_higher : (r : Records) (now : Now) (above : ℕ) → IsNone r now 0 → IsNone r now above
none_higher r now above none = record {
  none = λ slot within. elim (cases_Bool (is_ready r now above slot)) [
    | inl ready ↦
        let parts = ready_parts r now above slot within ready in
        let low : Ready r now 0 slot parts.0 = record { is = parts.1.is; over = omega (arith, parts.1.over); can = parts.1.can } in
        absurd (cc (sym (none.none slot within) ∙ ready_whole r now 0 slot parts.0 low))
    | inr not_ready ↦ not_ready
  ];
}

-- the choice of the Unix, by the last pid
either_of : Records → WordMap → (ℕ → List ℕ) → (steps traps : ℕ) → Now → (last : ℕ) → Option ℕ
either_of r words tapes steps traps now last =
    or_else (least_from (test_of r words tapes steps traps now) (last + 1) (most_pids - last)) (least_from (test_of r words tapes steps traps now) 1 most_pids)

is_either : (r : Records) (words : WordMap) (tapes : ℕ → List ℕ) (steps traps : ℕ) (now : Now)
    → chosen (keys_of now) (unix_of r words tapes InKernel steps traps) ≡ either_of r words tapes steps traps now (last_pid r.head)
unfolding chosen unix_of processes_of either_of
is_either r words tapes steps traps now = ap (either_of r words tapes steps traps now) (last_same r.head)

pub chosen_is : (r : Records) (words : WordMap) (tapes : ℕ → List ℕ) (steps traps : ℕ) (now : Now) (slot : ℕ) (process : ProcRec) → AreSound r → IsChosen r now slot
    → r.procs slot ≡ Some process → chosen (keys_of now) (unix_of r words tapes InKernel steps traps) ≡ Some process.pid
unfolding either_of
chosen_is r words tapes steps traps now slot process sound is there =
    let low = least_from (test_of r words tapes steps traps now) 1 most_pids in
    is_either r words tapes steps traps now ∙ (elim is [
      | inl next ↦ ap (λ (o : Option ℕ). or_else o low) (found_above r words tapes steps traps now (last_pid r.head) slot process sound next there)
      | inr first ↦
          ap (λ (o : Option ℕ). or_else o low) (none_above r words tapes steps traps now (last_pid r.head) (most_pids - last_pid r.head) sound first.0)
          ∙ found_above r words tapes steps traps now 0 slot process sound first.1 there
    ])

pub none_chosen : (r : Records) (words : WordMap) (tapes : ℕ → List ℕ) (steps traps : ℕ) (now : Now) → AreSound r → IsNone r now 0
    → chosen (keys_of now) (unix_of r words tapes InKernel steps traps) ≡ None
unfolding either_of
none_chosen r words tapes steps traps now sound none =
    let low = least_from (test_of r words tapes steps traps now) 1 most_pids in
    is_either r words tapes steps traps now
    ∙ (ap (λ (o : Option ℕ). or_else o low) (none_above r words tapes steps traps now (last_pid r.head) (most_pids - last_pid r.head) sound (none_higher r now (last_pid r.head) none))
    ∙ none_above r words tapes steps traps now 0 most_pids sound none)

live_or_true : (p : Option Process) (others : Bool) → is_some p ≡ true → live_or p others ≡ true
live_or_true (Some p) others here = refl
live_or_true None others here = cc

live_or_rest : (p : Option Process) (others : Bool) → others ≡ true → live_or p others ≡ true
live_or_rest (Some p) others rest = refl
live_or_rest None others rest = rest

after : (first k : ℕ) → first ≤ k → (first ≡ k → ⊥) → first + 1 ≤ k
after first k from apart = elim (cases_Bool (first == k)) [
  | inl same ↦ let equal : first ≡ k = grind (arith, nat_tests) in absurd (apart equal)
  | inr other ↦ grind (arith, nat_tests, other)
]

live_first : (ps : ℕ → Option Process) (first : ℕ) (others : Bool) (held : Option Process) → ps first ≡ held → live_or held others ≡ true
    → (others ≡ true → (k : ℕ) × (is_some (ps k) ≡ true)) → (k : ℕ) × (is_some (ps k) ≡ true)
live_first ps first others (Some p) same any rest = (first, ap is_some same)
live_first ps first others None same any rest = rest any

-- some process is live, in the Unix and by records
live_at : (ps : ℕ → Option Process) (first count k end : ℕ) → end ≡ first + count → first ≤ k → k < end → is_some (ps k) ≡ true → is_any_live ps first count ≡ true
unfolding is_any_live
live_at ps first zero k end sum from to live = absurd (omega arith)
live_at ps first (suc count) k end sum from to live = elim (cases_Bool (is_some (ps first))) [
  | inl here ↦ live_or_true (ps first) (is_any_live ps (first + 1) count) here
  | inr missing ↦
      let apart : first ≡ k → ⊥ = λ same. cc (sym missing ∙ subst (λ (j : ℕ). is_some (ps j) ≡ true) (sym same) live) in
      let later : first + 1 ≤ k = after first k from apart in
      live_or_rest (ps first) (is_any_live ps (first + 1) count) (live_at ps (first + 1) count k end (omega arith) later to live)
]

live_found : (ps : ℕ → Option Process) (first count : ℕ) → is_any_live ps first count ≡ true → (k : ℕ) × (is_some (ps k) ≡ true)
unfolding is_any_live
live_found ps first zero any = absurd (cc any)
live_found ps first (suc count) any = live_first ps first (is_any_live ps (first + 1) count) (ps first) refl any (λ rest. live_found ps (first + 1) count rest)

live_slot : (r : Records) (place : ℕ) (held : Option ProcRec) → place < 16 → r.procs place ≡ held → is_live_one held ≡ true → (process : ProcRec) × (IsIn r place process)
live_slot r place (Some process) within there live = (process, record { within = within; there = there; live = live })
live_slot r place None within there live = absurd (cc live)

living_slot : (r : Records) (words : WordMap) (pid : ℕ) → Missing r words pid ⊎ Living r words pid → is_some (process_at r words pid) ≡ true → has_such r is_live_one ≡ true
living_slot r words pid (inl missing) live = absurd (cc (sym (ap is_some missing.decoded) ∙ live))
living_slot r words pid (inr found) live = such_found r is_live_one found.slot found.is.within (ap is_live_one found.is.there ∙ found.is.live)

pub any_live_is : (r : Records) (words : WordMap) (tapes : ℕ → List ℕ) (steps traps : ℕ) → AreSound r
    → has_live_process (unix_of r words tapes InKernel steps traps) ≡ has_such r is_live_one
unfolding unix_of processes_of
any_live_is r words tapes steps traps sound =
    let ps = process_at r words in
    same_tests (is_any_live ps 1 most_pids) (has_such r is_live_one)
    (λ any.
    let found = live_found ps 1 most_pids any in
    living_slot r words found.0 (living r words found.0 sound) found.1)
    (λ such.
    let passing : Passing (λ k. is_live_one (r.procs k)) 0 16 = such_passing r is_live_one such in
    let held = live_slot r passing.number (r.procs passing.number) passing.to refl passing.passes in
    let range = pid_range r passing.number held.0 sound.values held.1 in
    live_at ps 1 most_pids held.0.pid 257 refl range.0 (omega (arith, range.1))
    (ap is_some (found_in r words passing.number held.0 sound held.1)))
