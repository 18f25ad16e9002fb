-- A kernel that was built after a panic which damaged nothing stands for the state that Abort leaves.
use Rattle.std.proofs.Common.{◌≡◌, ℕ, zero, suc, ◌+◌, ◌<◌, ◌≤◌, ◌==◌, ◌&&◌, Bool, true, false, List, Option, Some, None, is_some, inl, inr, refl, sym, ap, subst, ◌∙◌, arith}
use Rattle.std.proofs.lemmas.Bool.{and_parts, cases_Bool}
use Rattle.std.proofs.lemmas.Bool.Decides.{nat_tests}
use Rattle.ow_base.specs.Images.{Image}
use Rattle.ow_base.specs.Sv32.{WordMap}
use Rattle.record_layouts.specs.declared.places.RecordId.TheVariants as id
use Rattle.record_layouts.specs.declared.proc.ProcRec.{ProcRec}
use Rattle.record_layouts.specs.Decode.{InKernel, description_by, ended_by, ended_in, ended_of, is_ended_as, pid_in, process_at, processes_of, slot_by, status_by, unix_of}
use Rattle.record_layouts.specs.Held.{Records}
use Rattle.record_layouts.specs.Images.{records_of_image}
use Rattle.record_layouts.specs.Left.{HandedOver}
use Rattle.record_layouts.specs.LeftImages.{unix_left}
use Rattle.record_layouts.specs.Pages.{has_ended, is_live}
use Rattle.record_layouts.specs.SoundImages.{IsSoundAtPanic}
use Rattle.record_layouts.specs.Unix.Abort.{abort, child_after, exit_after}
use Rattle.record_layouts.specs.Unix.Choice.{least_from}
use Rattle.record_layouts.specs.Unix.State.{AtKernel, Process, in_use}
use Rattle.record_layouts.specs.Unix.Wounds.{no_wounds}
use Rattle.record_layouts.proofs.Least.{any_found, any_none, least_found, least_none, least_passes, least_within}
use Rattle.record_layouts.proofs.Surviving.{exits_stay}
use Rattle.resurrector.specs.Rebuilt.{IsRevived, tapes_put}
use Rattle.resurrector.specs.Revived.{ended_or_free, process_by, revived_process}
use Rattle.resurrector.specs.Survivors.{goes_on, has_pid, survivor_in}
use Rattle.resurrector.proofs.RebuiltDescriptions.{description_same}
use Rattle.resurrector.proofs.RebuiltProcesses.{all_survive, goes_on_as, process_is, v, was_nothing, was_there}
use Rattle.resurrector.proofs.RebuiltRecords.{exit_same, last_pid_same, next_pid_same, process_there, terminal_put}
use Rattle.resurrector.proofs.Survivals.{after, after_pid, after_state, no_survivor, pid_is, survivor_there}
use Rattle.resurrector.proofs.Undamaged.{held, lives, process, slot_low}

-- none before the least passes
none_before : (test : ℕ → Bool) (first count n : ℕ) → least_from test first count ≡ Some n → (k : ℕ) → first ≤ k → k < n → test k ≡ false
unfolding least_from
none_before test first zero n found k from to = absurd (cc found)
none_before test first (suc count) n found k from to = elim (cases_Bool (test first)) [
  | inl here ↦ let same : first ≡ n = cc (rw here at found) in absurd (omega (arith, same, from, to))
  | inr fails ↦ elim (cases_Bool (first == k)) [
    | inl same ↦ let is : first ≡ k = grind (arith, nat_tests) in subst (λ (m : ℕ). test m ≡ false) is fails
    | inr other ↦ none_before test (first + 1) count n (rw fails at found) k (grind (arith, nat_tests)) to
  ]
]

pub none_at_all : (test : ℕ → Bool) (first count : ℕ) → least_from test first count ≡ None → (k : ℕ) → first ≤ k → k < first + count → test k ≡ false
unfolding least_from
none_at_all test first zero none k from to = absurd (omega (arith, from, to))
none_at_all test first (suc count) none k from to = elim (cases_Bool (test first)) [
  | inl here ↦ absurd (cc (rw here at none))
  | inr fails ↦ elim (cases_Bool (first == k)) [
    | inl same ↦ let is : first ≡ k = grind (arith, nat_tests) in subst (λ (m : ℕ). test m ≡ false) is fails
    | inr other ↦ none_at_all test (first + 1) count (rw fails at none) k (grind (arith, nat_tests)) (omega (arith, to))
  ]
]

module _ (i : Image) (most broken : ℕ) (sound : IsSoundAtPanic i most broken) (h : HandedOver) (steps traps : ℕ)
    (counts : List ℕ) (next : Records) (next_words : WordMap) (is : IsRevived (records_of_image i) (Some h) counts i.words next next_words) where
  abbrev r : Records
  r = records_of_image i

  abbrev later : ℕ → Option Process
  later = goes_on_as i most broken sound h steps traps

  abbrev earlier : ℕ → Option Process
  earlier = process_at r i.words

  -- the pids of the processes that go on are those that were live
  has_own : (pid slot : ℕ) → slot_by (r.exits pid) ≡ Some slot → has_pid pid (survivor_in r (Some h) slot) ≡ true
  has_own pid slot found =
      let own = after_pid i most broken sound h pid slot found in
      rw (survivor_there i most broken sound h pid slot found) (grind (arith, nat_tests, own))

  has_other : (pid slot : ℕ) → slot_by (r.exits pid) ≡ None → has_pid pid (survivor_in r (Some h) slot) ≡ false
  has_other pid slot none = by_pid (pid_in r slot) refl where
    by_pid : (o : Option ℕ) → pid_in r slot ≡ o → has_pid pid (survivor_in r (Some h) slot) ≡ false
    by_pid (Some its) live =
        let found = pid_is i most broken sound h slot its live in
        let own = after_pid i most broken sound h its slot found in
        elim (cases_Bool (its == pid)) [
          | inl same ↦
              let one : its ≡ pid = grind (arith, nat_tests) in
              let two : slot_by (r.exits pid) ≡ Some slot = subst (λ (p : ℕ). slot_by (r.exits p) ≡ Some slot) one found in
              absurd (cc (sym none ∙ two))
          | inr other ↦ rw (survivor_there i most broken sound h its slot found) (grind (arith, nat_tests, own, other))
        ]
    by_pid None nobody = rw (no_survivor i most broken sound h slot nobody) refl

  goes_on_same : (pid : ℕ) → goes_on r (Some h) pid ≡ is_some (earlier pid)
  unfolding goes_on
  goes_on_same pid = by_slot (slot_by (r.exits pid)) refl where
    by_slot : (o : Option ℕ) → slot_by (r.exits pid) ≡ o → goes_on r (Some h) pid ≡ is_some (earlier pid)
    by_slot (Some slot) found =
        any_found (λ s. has_pid pid (survivor_in r (Some h) s)) 0 16 16 slot refl (omega arith) (slot_low i most broken sound h pid slot found) (has_own pid slot found)
        ∙ sym (ap is_some (was_there i most broken sound h steps traps pid slot found))
    by_slot None none =
        any_none (λ s. has_pid pid (survivor_in r (Some h) s)) 0 16 16 refl (record { none = λ s from to. has_other pid s none })
        ∙ sym (ap is_some (was_nothing i most broken sound h steps traps pid none))

  -- an ended process stays where its parent goes on
  abbrev has_parent : Option ProcRec → Bool
  has_parent (Some one) = goes_on r (Some h) one.parent
  has_parent None = false

  ended_test : (pid slot : ℕ) → slot < 16 → is_ended_as pid (next.procs slot) ≡ (is_ended_as pid (r.procs slot) && has_parent (r.procs slot))
  unfolding revived_process
  ended_test pid slot low = by_pid (pid_in r slot) refl where
    kept : (o : Option ProcRec) → is_ended_as pid (Some (ended_or_free r (Some h) o)) ≡ (is_ended_as pid o && has_parent o)
    kept (Some one) = elim (cases_Bool (one.state == 3)) [
      | inl ended ↦ elim (cases_Bool (goes_on r (Some h) one.parent)) [
        | inl goes ↦ rw (ended, goes) (rw ended (both (one.pid == pid)))
        | inr lost ↦ rw (ended, lost) (neither (one.pid == pid))
      ]
      | inr other ↦ rw other refl
    ]
      where
        both : (b : Bool) → b ≡ (b && true)
        both true = refl
        both false = refl

        neither : (b : Bool) → false ≡ (b && false)
        neither true = refl
        neither false = refl
    kept None = refl

    by_pid : (o : Option ℕ) → pid_in r slot ≡ o → is_ended_as pid (next.procs slot) ≡ (is_ended_as pid (r.procs slot) && has_parent (r.procs slot))
    by_pid (Some its) live =
        let found = pid_is i most broken sound h slot its live in
        let state = after_state i most broken sound h its slot found in
        let lives = lives i most broken sound h its slot found in
        let now : ((after i most broken sound h its slot found).state == 3) ≡ false = grind (arith, nat_tests, state) in
        let before : ((process i most broken sound h its slot found).state == 3) ≡ false = grind (arith, nat_tests, lives) in
        rw (process_there i most broken sound h counts next next_words is its slot found, held i most broken sound h its slot found, now, before) refl
    by_pid None nobody =
        ap (λ (o : Option ProcRec). is_ended_as pid o) (is.records (id.Proc slot) low)
        ∙ ap (λ (o : Option ProcRec). is_ended_as pid (Some (process_by r (Some h) slot o))) (no_survivor i most broken sound h slot nobody)
        ∙ kept (r.procs slot)

  -- the record of an ended process, where its parent goes on
  ended_record : (slot : ℕ) (one : ProcRec) → slot < 16 → r.procs slot ≡ Some one → one.state ≡ 3 → next.procs slot ≡ Some (ended_or_free r (Some h) (Some one))
  unfolding revived_process
  ended_record slot one low there over = by_pid (pid_in r slot) refl where
    by_pid : (o : Option ℕ) → pid_in r slot ≡ o → next.procs slot ≡ Some (ended_or_free r (Some h) (Some one))
    by_pid (Some its) live =
        let found = pid_is i most broken sound h slot its live in
        let goes = lives i most broken sound h its slot found in
        let same : process i most broken sound h its slot found ≡ one = cc (held i most broken sound h its slot found, there) in
        let state : is_live one ≡ true = subst (λ (p : ProcRec). is_live p ≡ true) same goes in
        absurd (grind (arith, nat_tests, state, over))
    by_pid None nobody =
        is.records (id.Proc slot) low
        ∙ ap (λ (o : Option ProcRec). Some (process_by r (Some h) slot o)) (no_survivor i most broken sound h slot nobody)
        ∙ ap (λ (o : Option ProcRec). Some (ended_or_free r (Some h) o)) there

  -- the one record of an ended process of a pid
  module _ (pid slot : ℕ) (one : ProcRec) (low : slot < 16) (there : r.procs slot ≡ Some one) (over : one.state ≡ 3) (own : one.pid ≡ pid) where
    at_slot : is_ended_as pid (r.procs slot) ≡ true
    at_slot = rw there (grind (arith, nat_tests, over, own))

    -- no other slot has one
    elsewhere : (k : ℕ) → is_ended_as pid (r.procs k) ≡ true → k ≡ slot
    elsewhere k passes = by_record (r.procs k) refl where
      by_record : (o : Option ProcRec) → r.procs k ≡ o → k ≡ slot
      by_record (Some other) its =
          let also : (has_ended other && other.pid == pid) ≡ true = rw its at passes in
          let parts = and_parts (has_ended other) (other.pid == pid) also in
          let state : other.state ≡ 3 = grind (arith, nat_tests, parts.0) in
          let same : other.pid ≡ one.pid = grind (arith, nat_tests, parts.1, own) in
          sound.numbered.one_ended k slot other one its there state over same
      by_record None its = absurd (cc (rw its at passes))

    goes_child : goes_on r (Some h) one.parent ≡ true
        → ended_in next later (least_from (λ k. is_ended_as pid (next.procs k)) 0 16) ≡ child_after false later (ended_by earlier (Some one))
    goes_child goes =
        let before : is_some (earlier one.parent) ≡ true = sym (goes_on_same one.parent) ∙ goes in
        let after : is_some (later one.parent) ≡ true = all_survive i most broken sound h steps traps one.parent ∙ before in
        let found : least_from (λ k. is_ended_as pid (next.procs k)) 0 16 ≡ Some slot =
        least_found (λ k. is_ended_as pid (next.procs k)) 0 16 16 slot refl (record {
          from = omega arith;
          to = low;
          passes = ended_test pid slot low ∙ rw (at_slot, there, goes) refl;
          below = record {
            none = λ k from to. elim (cases_Bool (is_ended_as pid (r.procs k))) [
              | inl also ↦ absurd (omega (arith, elsewhere k also, to))
              | inr other ↦ ended_test pid k (omega (arith, to, low)) ∙ rw other refl
            ];
          };
        }) in
        let state : (one.state == 3) ≡ true = grind (arith, nat_tests, over) in
        let kept : ended_or_free r (Some h) (Some one) ≡ one = rw (state, goes) refl in
        rw (found, ended_record slot one low there over, kept, before, after) refl

    lost_child : goes_on r (Some h) one.parent ≡ false
        → ended_in next later (least_from (λ k. is_ended_as pid (next.procs k)) 0 16) ≡ child_after false later (ended_by earlier (Some one))
    lost_child lost =
        let before : is_some (earlier one.parent) ≡ false = sym (goes_on_same one.parent) ∙ lost in
        let nothing : least_from (λ k. is_ended_as pid (next.procs k)) 0 16 ≡ None =
        least_none (λ k. is_ended_as pid (next.procs k)) 0 16 16 refl (record {
          none = λ k from to. elim (cases_Bool (is_ended_as pid (r.procs k))) [
            | inl also ↦ ended_test pid k to ∙ rw (elsewhere k also, at_slot, there, lost) refl
            | inr other ↦ ended_test pid k to ∙ rw other refl
          ];
        }) in
        rw (nothing, before) refl

  -- the ended children
  child_same : (pid : ℕ) → ended_of next later pid ≡ child_after false later (ended_of r earlier pid)
  unfolding ended_of
  child_same pid = by_slot (least_from test 0 16) refl where
    test : ℕ → Bool
    test slot = is_ended_as pid (r.procs slot)

    now : ℕ → Bool
    now slot = is_ended_as pid (next.procs slot)

    by_slot : (o : Option ℕ) → least_from test 0 16 ≡ o → ended_in next later (least_from now 0 16) ≡ child_after false later (ended_in r earlier o)
    by_slot (Some slot) found = by_record (r.procs slot) refl where
      low : slot < 16
      low = (least_within test 0 16 slot found).1

      passes : is_ended_as pid (r.procs slot) ≡ true
      passes = least_passes test 0 16 slot found

      by_record : (o : Option ProcRec) → r.procs slot ≡ o → ended_in next later (least_from now 0 16) ≡ child_after false later (ended_by earlier o)
      by_record (Some one) there =
          let parts = and_parts (has_ended one) (one.pid == pid) (rw there at passes) in
          let over : one.state ≡ 3 = grind (arith, nat_tests, parts.0) in
          let own : one.pid ≡ pid = grind (arith, nat_tests, parts.1) in
          elim (cases_Bool (goes_on r (Some h) one.parent)) [
            | inl goes ↦ goes_child pid slot one low there over own goes
            | inr lost ↦ lost_child pid slot one low there over own lost
          ]
      by_record None there = absurd (cc (rw there at passes))
    by_slot None none =
        let nothing : least_from now 0 16 ≡ None = least_none now 0 16 16 refl (record {
          none = λ slot from to. ended_test pid slot to ∙ rw (none_at_all test 0 16 none slot from to) refl;
        }) in
        rw nothing refl

  -- the state as a whole
  exits_there : (pid : ℕ) → status_by (next.exits pid) ≡ exit_after (v i most broken sound h steps traps) (no_wounds (v i most broken sound h steps traps)) pid ((v i most broken sound h steps traps).processes pid)
  unfolding unix_left unix_of
  exits_there pid =
      ap status_by (exit_same i most broken sound h counts next next_words is pid)
      ∙ sym (exits_stay (v i most broken sound h steps traps) pid ((v i most broken sound h steps traps).processes pid))

  pub unix_same : unix_of next next_words (tapes_put r i.tapes) InKernel steps traps
      ≡ abort (unix_left i h steps traps) (no_wounds (unix_left i h steps traps))
  unfolding unix_of abort unix_left no_wounds processes_of
  unix_same = λ k. record {
    processes = λ pid. process_is i most broken sound h steps traps counts next next_words is pid k;
    ended = λ pid. (ap (λ (processes : ℕ → Option Process). ended_of next processes pid) (λ j q. process_is i most broken sound h steps traps counts next next_words is q j) ∙ child_same pid) k;
    descriptions = λ number. (ap (λ (processes : ℕ → Option Process). in_use processes (λ n. description_by (next.descs n)) number)
        (λ j q. process_is i most broken sound h steps traps counts next next_words is q j)
        ∙ description_same i most broken sound h steps traps counts next next_words is number) k;
    files = λ number. None;
    room = is.frames k;
    terminals = λ tty. terminal_put i most broken sound h counts next next_words is tty k;
    exits = λ pid. exits_there pid k;
    next_pid = next_pid_same i most broken sound h counts next next_words is k;
    last_pid = last_pid_same i most broken sound h counts next next_words is k;
    steps = steps;
    traps = traps;
    position = AtKernel;
  }
