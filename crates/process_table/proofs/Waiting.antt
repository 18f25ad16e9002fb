-- The child that a process waits for is the same by records and in the Unix, and so is whether a child goes on.
use Rattle.std.proofs.Common.{◌≡◌, ◌==◌, ℕ, zero, suc, ◌+◌, ◌<◌, ◌≤◌, Bool, true, false, nat_lt, List, Option, Some, None, IfSome, is_some, inl, inr, refl, sym, ap, subst, ◌∙◌, arith}
use Rattle.std.proofs.lemmas.Bool.{both_ways, cases_Bool}
use Rattle.std.proofs.lemmas.Bool.Decides.{nat_tests}
use Rattle.ow_base.specs.Sv32.{WordMap}
use Rattle.ow_base.specs.declared.machine.Bank.{Bank}
use Rattle.record_layouts.specs.declared.places.RecordId.TheVariants as id
use Rattle.record_layouts.specs.declared.proc.ProcRec.{ProcRec}
use Rattle.record_layouts.specs.Unix.Children.{ended_child, has_child, is_any, is_child_of, is_ended_child_of}
use Rattle.record_layouts.specs.Unix.State.{Process, least_from}
use Rattle.record_layouts.specs.Decode.{Context, InKernel, InUser, ended_by, ended_in, ended_of, is_ended_as, process_at, processes_of, unix_of, with_bank}
use Rattle.record_layouts.specs.Held.{Records}
use Rattle.record_layouts.specs.Proc.{FitsProc, IsWithin}
use Rattle.record_layouts.specs.Sound.{AreSound, IsIn}
use Rattle.process_table.specs.Children.{IsChildOf, IsWaited, child_slot, is_first_child}
use Rattle.process_table.specs.Least.{NonePasses}
use Rattle.process_table.specs.Slots.{has_such, is_earlier_child, is_ended_child, is_live_child, is_live_pid}
use Rattle.process_table.proofs.EndedUnix.{ended_there}
use Rattle.process_table.proofs.Holding.{such_found, such_passing}
use Rattle.process_table.proofs.Least.{Passing, least_found, least_none, least_passes, least_within}
use Rattle.process_table.proofs.PidSums.{lives_alike}
use Rattle.process_table.proofs.Running.{child_is}
use Rattle.process_table.proofs.Seats.{found_in}
use Rattle.process_table.proofs.TakenSlots.{ended_child_there, live_pid_is}

-- the slot of the first child is the first slot that passes
pub slot_found : (r : Records) (parent slot : ℕ) → slot < 16 → is_first_child r parent (r.procs slot) ≡ true
    → ((k : ℕ) → k < slot → is_first_child r parent (r.procs k) ≡ false) → child_slot r parent ≡ Some slot
unfolding child_slot
slot_found r parent slot within passes none =
    least_found (λ k. is_first_child r parent (r.procs k)) 0 16 16 slot refl
    (record { from = omega arith; to = within; passes = passes; below = record { none = λ k from less. none k less } })

pub slot_none : (r : Records) (parent : ℕ) → ((k : ℕ) → k < 16 → is_first_child r parent (r.procs k) ≡ false) → child_slot r parent ≡ None
unfolding child_slot
slot_none r parent none = least_none (λ k. is_first_child r parent (r.procs k)) 0 16 16 refl (record { none = λ k from less. none k less })

-- where nothing is found nothing passes
none_passes : (test : ℕ → Bool) (first count k : ℕ) → least_from test first count ≡ None → first ≤ k → k < first + count → test k ≡ true → ⊥
unfolding least_from
none_passes test first zero k none from to passes = omega (arith, from, to)
none_passes test first (suc count) k none from to passes = elim (cases_Bool (test first)) [
  | inl here ↦ absurd (cc (rw here at none))
  | inr fails ↦
      let later : first + 1 ≤ k = grind (arith, fails, passes, from) in
      none_passes test (first + 1) count k (rw fails at none) later (omega (arith, to)) passes
]

slot_passes : (r : Records) (parent slot : ℕ) → child_slot r parent ≡ None → slot < 16 → is_first_child r parent (r.procs slot) ≡ true → ⊥
unfolding child_slot
slot_passes r parent slot none within passes = none_passes (λ k. is_first_child r parent (r.procs k)) 0 16 slot none (omega arith) within passes

-- the record of a child that has ended
record Ended (r : Records) (parent : ℕ) : Type 0 where
  pub slot : ℕ
  pub process : ProcRec
  pub within : slot < 16
  pub there : r.procs slot ≡ Some process
  pub state : process.state ≡ 3
  pub parent_is : process.parent ≡ parent

ended_test : (r : Records) (parent : ℕ) (child : Ended r parent) → is_ended_child parent (Some child.process) ≡ true
ended_test r parent child = grind (arith, nat_tests, child.state, child.parent_is)

-- a child with a lesser pid
earlier_found : (r : Records) (parent pid : ℕ) (child : Ended r parent) → child.process.pid < pid → has_such r (is_earlier_child parent pid) ≡ true
earlier_found r parent pid child less =
    let test = ended_test r parent child in
    let below : nat_lt child.process.pid pid ≡ true = grind (arith, nat_tests, less) in
    such_found r (is_earlier_child parent pid) child.slot child.within (ap (is_earlier_child parent pid) child.there ∙ rw test below)

earlier_by : (r : Records) (parent pid slot : ℕ) (held : Option ProcRec) → slot < 16 → r.procs slot ≡ held → is_earlier_child parent pid held ≡ true
    → (child : Ended r parent) × (child.process.pid < pid)
earlier_by r parent pid slot None within there passes = absurd (cc passes)
earlier_by r parent pid slot (Some process) within there passes = (
  record {
    slot = slot;
    process = process;
    within = within;
    there = there;
    state = grind (arith, nat_tests, passes);
    parent_is = grind (arith, nat_tests, passes);
  },
  grind (arith, nat_tests, passes),
)

earlier_child : (r : Records) (parent pid : ℕ) → has_such r (is_earlier_child parent pid) ≡ true → (child : Ended r parent) × (child.process.pid < pid)
earlier_child r parent pid such =
    let passing : Passing (λ k. is_earlier_child parent pid (r.procs k)) 0 16 = such_passing r (is_earlier_child parent pid) such in
    earlier_by r parent pid passing.number (r.procs passing.number) passing.to refl passing.passes

-- where no slot is found no child has ended: of those with pids below a bound there would be a first
no_child_below : (r : Records) (parent bound : ℕ) → child_slot r parent ≡ None → (child : Ended r parent) → child.process.pid < bound → ⊥
no_child_below r parent zero none child less = omega (arith, less)
no_child_below r parent (suc bound) none child less = elim (cases_Bool (has_such r (is_earlier_child parent child.process.pid))) [
  | inl such ↦
      let earlier = earlier_child r parent child.process.pid such in
      no_child_below r parent bound none earlier.0 (omega (arith, less, earlier.1))
  | inr first ↦
      let test = ended_test r parent child in
      let passes : is_first_child r parent (Some child.process) ≡ true = rw (test, first) refl in
      slot_passes r parent child.slot none child.within (ap (is_first_child r parent) child.there ∙ passes)
]

-- the child in a slot that is found: no other has a lesser pid
record First (r : Records) (parent slot : ℕ) : Type 0 where
  pub child : Ended r parent
  pub same : child.slot ≡ slot
  pub first : has_such r (is_earlier_child parent child.process.pid) ≡ false

first_by : (r : Records) (parent slot : ℕ) (held : Option ProcRec) → slot < 16 → r.procs slot ≡ held → is_first_child r parent held ≡ true → First r parent slot
first_by r parent slot None within there passes = absurd (cc passes)
first_by r parent slot (Some process) within there passes =
    elim (cases_Bool (has_such r (is_earlier_child parent process.pid))) [
      | inl such ↦ absurd (grind (arith, nat_tests, passes, such))
      | inr first ↦ record {
        child = record { slot = slot; process = process; within = within; there = there; state = grind (arith, nat_tests, passes); parent_is = grind (arith, nat_tests, passes) };
        same = refl;
        first = first;
      }
    ]

first_child : (r : Records) (parent slot : ℕ) → child_slot r parent ≡ Some slot → First r parent slot
unfolding child_slot
first_child r parent slot found =
    let test = λ (k : ℕ). is_first_child r parent (r.procs k) in
    let within = least_within test 0 16 slot found in
    first_by r parent slot (r.procs slot) (omega (arith, within.1)) refl (least_passes test 0 16 slot found)

-- in user mode a process has another bank, and is a child of the same process
banked_child : (parent : ℕ) (bank : Bank) (held : Option Process) → is_child_of parent (with_bank bank held) ≡ is_child_of parent held
banked_child parent bank (Some process) = refl
banked_child parent bank None = refl

children_alike : (r : Records) (words : WordMap) (context : Context) (parent pid : ℕ) → is_child_of parent (processes_of r words context pid) ≡ is_child_of parent (process_at r words pid)
unfolding processes_of
children_alike r words InKernel parent pid = refl
children_alike r words (InUser user count bank) parent pid = elim (cases_Bool (pid == user)) [
  | inl same ↦ rw same (banked_child parent bank (process_at r words pid))
  | inr other ↦ rw other refl
]

pub live_agrees : (r : Records) (words : WordMap) (tapes : ℕ → List ℕ) (context : Context) (steps traps parent : ℕ) → AreSound r
    → has_child (unix_of r words tapes context steps traps) parent ≡ has_such r (is_live_child parent)
unfolding has_child unix_of processes_of
live_agrees r words tapes context steps traps parent sound =
    let tests : (λ pid. is_child_of parent (processes_of r words context pid)) ≡ (λ pid. is_child_of parent (process_at r words pid)) =
    λ i pid. children_alike r words context parent pid i in
    ap (λ (test : ℕ → Bool). is_any test 1 256) tests ∙ child_is r words tapes steps traps parent sound

module _ (r : Records) (words : WordMap) (context : Context) (parent : ℕ) where
  abbrev live_in : (pid : ℕ) → Option Process
  live_in pid = processes_of r words context pid

  abbrev waits_for : (pid : ℕ) → Bool
  waits_for pid = is_ended_child_of parent (ended_of r live_in pid)

  -- what is an ended child in the Unix is one by its record
  child_parent : (process : ProcRec) → is_ended_child_of parent (ended_by live_in (Some process)) ≡ true → process.parent ≡ parent
  child_parent process child = elim (cases_Bool (is_some (live_in process.parent))) [
    | inl lives ↦ let own : (process.parent == parent) ≡ true = rw lives at child in grind (arith, nat_tests, own)
    | inr dead ↦ absurd (cc (rw dead at child))
  ]

  child_at : (pid : ℕ) (found : Option ℕ) → least_from (λ k. is_ended_as pid (r.procs k)) 0 16 ≡ found
      → is_ended_child_of parent (ended_in r live_in found) ≡ true → (child : Ended r parent) × (child.process.pid ≡ pid)
  child_at pid None there child = absurd (cc child)
  child_at pid (Some place) there child =
      let other = ended_there (r.procs place) pid (least_passes (λ k. is_ended_as pid (r.procs k)) 0 16 place there) in
      let within = least_within (λ k. is_ended_as pid (r.procs k)) 0 16 place there in
      let by_record = subst (λ (held : Option ProcRec). is_ended_child_of parent (ended_by live_in held) ≡ true) other.1 child in (
        record {
          slot = place;
          process = other.0;
          within = omega (arith, within.1);
          there = other.1;
          state = other.2;
          parent_is = child_parent other.0 by_record;
        },
        other.3,
      )

  child_of : (pid : ℕ) → waits_for pid ≡ true → (child : Ended r parent) × (child.process.pid ≡ pid)
  unfolding ended_of
  child_of pid child = child_at pid (least_from (λ k. is_ended_as pid (r.procs k)) 0 16) refl child

  module _ (tapes : ℕ → List ℕ) (steps traps : ℕ) (sound : AreSound r) where
    -- no slot is found: no child has ended
    none_waited : child_slot r parent ≡ None → ended_child (unix_of r words tapes context steps traps) parent ≡ None
    unfolding ended_child unix_of
    none_waited none = least_none waits_for 1 256 257 refl (record {
      none = λ pid from to. elim (cases_Bool (waits_for pid)) [
        | inl child ↦
            let found = child_of pid child in
            absurd (no_child_below r parent 257 none found.0 (omega (arith, to, found.1)))
        | inr fails ↦ fails
      ];
    })

    module _ (lives : is_live_pid r parent ≡ true) where
      -- a child that has ended is one in the Unix
      ended_is : (child : Ended r parent) → ended_of r live_in child.process.pid ≡ Some (record { parent = child.process.parent; status = child.process.status })
      ended_is child = ended_child_there r words context sound child.slot child.process child.within child.there child.state (rw child.parent_is lives)

      child_range : (child : Ended r parent) → IsWithin 1 256 child.process.pid
      child_range child =
          let fits : FitsProc child.process = subst (λ (held : Option ProcRec). IfSome held FitsProc) child.there (sound.values (id.Proc child.slot)) in
          (fits.ended child.state).pid

      first_waited : (slot : ℕ) (first : First r parent slot) → ended_child (unix_of r words tapes context steps traps) parent ≡ Some first.child.process.pid
      unfolding ended_child unix_of
      first_waited slot first =
          let pid = first.child.process.pid in
          let range = child_range first.child in
          let own : (first.child.process.parent == parent) ≡ true = grind (arith, nat_tests, first.child.parent_is) in
          let passes : waits_for pid ≡ true = ap (is_ended_child_of parent) (ended_is first.child) ∙ own in
          let below : NonePasses waits_for 1 pid = record {
            none = λ k from less. elim (cases_Bool (waits_for k)) [
              | inl child ↦
                  let found = child_of k child in
                  absurd (both_ways (has_such r (is_earlier_child parent pid)) first.first (earlier_found r parent pid found.0 (omega (arith, less, found.1))))
              | inr fails ↦ fails
            ];
          } in
          least_found waits_for 1 256 257 pid refl (record { from = range.0; to = omega (arith, range.1); passes = passes; below = below })

      some_waited : (slot : ℕ) → First r parent slot → IsChildOf r (unix_of r words tapes context steps traps) parent slot
      unfolding unix_of
      some_waited slot first = record {
        process = first.child.process;
        within = subst (λ (k : ℕ). k < 16) first.same first.child.within;
        there = subst (λ (k : ℕ). r.procs k ≡ Some first.child.process) first.same first.child.there;
        state = first.child.state;
        parent_is = first.child.parent_is;
        first = first_waited slot first;
        ended = ended_is first.child;
      }

      waited : (found : Option ℕ) → child_slot r parent ≡ found → IsWaited r (unix_of r words tapes context steps traps) parent found
      waited (Some slot) found = some_waited slot (first_child r parent slot found)
      waited None found = none_waited found

-- a live process waits for the same child
pub waits_agree : (r : Records) (words : WordMap) (tapes : ℕ → List ℕ) (context : Context) (steps traps slot : ℕ) (process : ProcRec) → AreSound r → IsIn r slot process
    → IsWaited r (unix_of r words tapes context steps traps) process.pid (child_slot r process.pid)
waits_agree r words tapes context steps traps slot process sound is =
    let pid = process.pid in
    let decoded : is_some (processes_of r words context pid) ≡ true = lives_alike r words context pid ∙ ap is_some (found_in r words slot process sound is) in
    let lives : is_live_pid r pid ≡ true = sym (live_pid_is r words context pid sound) ∙ decoded in
    waited r words context pid tapes steps traps sound lives (child_slot r pid) refl
