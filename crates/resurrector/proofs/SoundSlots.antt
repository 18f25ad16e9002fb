-- What each slot has of a kernel that was built after a panic which damaged nothing: a process that goes on, one that has
-- ended, or none.
use Rattle.std.proofs.Common.{◌≡◌, ℕ, ◌<◌, ◌≤◌, ◌==◌, ◌&&◌, Bool, true, false, if◌then◌else◌, List, Option, Some, None, IfSome, inl, inr, refl, sym, ap, subst, ◌∙◌, arith}
use Rattle.std.proofs.lemmas.Bool.{cases_Bool, cases_lt, le-ltb}
use Rattle.ow_base.specs.Images.{Image}
use Rattle.ow_base.specs.Sv32.{WordMap}
use Rattle.kernel_builder.specs.Blank.{free_process}
use Rattle.record_layouts.specs.declared.dead_proc.DeadProc.{DeadProc}
use Rattle.record_layouts.specs.declared.head.HeadRec.{HeadRec}
use Rattle.record_layouts.specs.declared.places.RecordId.TheVariants as id
use Rattle.record_layouts.specs.declared.proc.ProcRec.{ProcRec}
use Rattle.record_layouts.specs.Decode.{next_by, pid_in, slot_by}
use Rattle.record_layouts.specs.Head.{FitsHead}
use Rattle.record_layouts.specs.Held.{Records}
use Rattle.record_layouts.specs.Images.{records_of_image}
use Rattle.record_layouts.specs.Left.{HandedOver, dead_proc, has_handed_bank, left_rec, with_handed_bank}
use Rattle.record_layouts.specs.Pages.{is_live}
use Rattle.record_layouts.specs.Sound.{IsIn}
use Rattle.record_layouts.specs.SoundImages.{IsSoundAtPanic}
use Rattle.resurrector.specs.Procedures.{brought_out, revived}
use Rattle.resurrector.specs.Rebuilt.{IsRevived}
use Rattle.resurrector.specs.Revived.{ended_or_free, process_by, revived_process}
use Rattle.resurrector.specs.Survivors.{goes_on}
use Rattle.resurrector.proofs.Outside.{none_live}
use Rattle.resurrector.proofs.RebuiltRecords.{process_there}
use Rattle.resurrector.proofs.Survivals.{after, after_lives, after_state, dead, no_survivor, pid_is}
use Rattle.resurrector.proofs.Undamaged.{held, is_there, lives, slot_low}
use Rattle.resurrector.proofs.Undamaged.{process as before}

some_same : (one other : ProcRec) → Some one ≡ Some other → one ≡ other
some_same one other e = cc

-- a process that goes on has the parent that it had
revived_parent : (dead : DeadProc) → (revived dead 0).parent ≡ dead.rec.parent
unfolding revived brought_out
revived_parent dead = elim (cases_Bool (dead.rec.procedure == 0)) [
  | inl plain ↦ elim (cases_Bool dead.aborted) [ inl aborted ↦ rw (plain, aborted) refl | inr whole ↦ rw (plain, whole) refl ]
  | inr own ↦ elim (cases_Bool dead.aborted) [ inl aborted ↦ rw (own, aborted) refl | inr whole ↦ rw (own, whole) refl ]
]

left_parent : (handed : Option HandedOver) (test : Bool) (own : ProcRec) → (if test then with_handed_bank handed own else own).parent ≡ own.parent
left_parent (Some h) true own = refl
left_parent None true own = refl
left_parent handed false own = refl

-- a record that is kept where a test passes, and is that of a free slot elsewhere
kept_if : (test : Bool) (one process : ProcRec) → (if test then one else free_process) ≡ process → process.state ≡ 3 → one ≡ process
kept_if true one process same over = same
kept_if false one process same over = absurd (omega (arith, ap (λ (p : ProcRec). p.state) same, over))

parent_if : (test : Bool) (one : ProcRec) (next : ℕ) → 1 ≤ next → one.parent < next → (if test then one else free_process).parent < next
parent_if true one next first given = given
parent_if false one next first given = omega (arith, first)

module _ (i : Image) (most broken : ℕ) (sound : IsSoundAtPanic i most broken) (h : HandedOver) (counts : List ℕ)
    (next : Records) (next_words : WordMap) (is : IsRevived (records_of_image i) (Some h) counts i.words next next_words) where
  abbrev r : Records
  r = records_of_image i

  pub was_in : (pid slot : ℕ) (found : slot_by (r.exits pid) ≡ Some slot) → IsIn r slot (before i most broken sound h pid slot found)
  was_in pid slot found = record {
    within = slot_low i most broken sound h pid slot found;
    there = held i most broken sound h pid slot found;
    live = lives i most broken sound h pid slot found;
  }

  pub is_in : (pid slot : ℕ) (found : slot_by (r.exits pid) ≡ Some slot) → IsIn next slot (after i most broken sound h pid slot found)
  is_in pid slot found = record {
    within = slot_low i most broken sound h pid slot found;
    there = process_there i most broken sound h counts next next_words is pid slot found;
    live = after_lives i most broken sound h pid slot found;
  }

  none_there : (slot : ℕ) → slot < 16 → pid_in r slot ≡ None → next.procs slot ≡ Some (ended_or_free r (Some h) (r.procs slot))
  unfolding revived_process
  none_there slot low nobody =
      is.records (id.Proc slot) low
      ∙ ap (λ (o : Option ProcRec). Some (process_by r (Some h) slot o)) (no_survivor i most broken sound h slot nobody)

  -- a process that is live was live
  pub was_live : (slot : ℕ) (process : ProcRec) → IsIn next slot process
      → (pid : ℕ) × (found : slot_by (r.exits pid) ≡ Some slot) × (after i most broken sound h pid slot found ≡ process)
  was_live slot process there = by_pid (pid_in r slot) refl where
    by_pid : (o : Option ℕ) → pid_in r slot ≡ o
        → (pid : ℕ) × (found : slot_by (r.exits pid) ≡ Some slot) × (after i most broken sound h pid slot found ≡ process)
    by_pid (Some pid) live =
        let found = pid_is i most broken sound h slot pid live in
        (pid, found, some_same _ process (sym (process_there i most broken sound h counts next next_words is pid slot found) ∙ there.there))
    by_pid None nobody =
        let same : ended_or_free r (Some h) (r.procs slot) ≡ process = some_same _ process (sym (none_there slot there.within nobody) ∙ there.there) in
        absurd (cc (sym (none_live r (Some h) (r.procs slot)) ∙ ap (λ (p : ProcRec). is_live p) same ∙ there.live))

  -- one that has ended had ended
  module _ (slot : ℕ) (process : ProcRec) (there : next.procs slot ≡ Some process) where
    ended_is : (o : Option ProcRec) → ended_or_free r (Some h) o ≡ process → process.state ≡ 3 → o ≡ Some process
    ended_is (Some one) same over = ap Some (kept_if (one.state == 3 && goes_on r (Some h) one.parent) one process same over)
    ended_is None same over = absurd (omega (arith, ap (λ (p : ProcRec). p.state) same, over))

    low : slot < 16
    low = elim (cases_lt slot 16) [
      | inl less ↦ less
      | inr past ↦ absurd (cc (is.others (id.Proc slot) (le-ltb slot 16 past), there))
    ]

    pub was_ended : process.state ≡ 3 → r.procs slot ≡ Some process
    was_ended over = by_pid (pid_in r slot) refl where
      by_pid : (o : Option ℕ) → pid_in r slot ≡ o → r.procs slot ≡ Some process
      by_pid (Some pid) live =
          let found = pid_is i most broken sound h slot pid live in
          let same = some_same _ process (sym (process_there i most broken sound h counts next next_words is pid slot found) ∙ there) in
          absurd (omega (arith, after_state i most broken sound h pid slot found, ap (λ (p : ProcRec). p.state) same, over))
      by_pid None nobody = ended_is (r.procs slot) (some_same _ process (sym (none_there slot low nobody) ∙ there)) over

    -- parents have been given away
    first_given : 1 ≤ next_by r.head
    first_given =
        let (head, is_head) = is_there r.head (sound.complete id.Head tt) in
        let fits : FitsHead head = subst (λ (o : Option HeadRec). IfSome o FitsHead) is_head (sound.values id.Head) in
        rw is_head fits.next_from

    parent_kept : (o : Option ProcRec) → r.procs slot ≡ o → (ended_or_free r (Some h) o).parent < next_by r.head
    parent_kept (Some one) its =
        parent_if (one.state == 3 && goes_on r (Some h) one.parent) one (next_by r.head) first_given (sound.numbered.parents slot one its)
    parent_kept None its = omega (arith, first_given)

    pub parent_given : process.parent < next_by r.head
    unfolding dead_proc left_rec
    parent_given = by_pid (pid_in r slot) refl where
      by_pid : (o : Option ℕ) → pid_in r slot ≡ o → process.parent < next_by r.head
      by_pid (Some pid) live =
          let found = pid_is i most broken sound h slot pid live in
          let same = some_same _ process (sym (process_there i most broken sound h counts next next_words is pid slot found) ∙ there) in
          let own = before i most broken sound h pid slot found in
          let parent : (after i most broken sound h pid slot found).parent ≡ own.parent =
          revived_parent (dead i most broken sound h pid slot found) ∙ left_parent (Some h) (has_handed_bank (Some h) r.head own.pid) own in
          subst (λ (p : ProcRec). p.parent < next_by r.head) same
          (subst (λ (n : ℕ). n < next_by r.head) (sym parent) (sound.numbered.parents slot own (held i most broken sound h pid slot found)))
      by_pid None nobody =
          subst (λ (p : ProcRec). p.parent < next_by r.head) (some_same _ process (sym (none_there slot low nobody) ∙ there)) (parent_kept (r.procs slot) refl)
