-- A plan that stores a status word is that of a wait which takes a child.
use Rattle.std.proofs.Common.{◌≡◌, ◌==◌, ◌||◌, ℕ, ◌+◌, nat_lt, Bool, true, false, not, if◌then◌else◌, List, Option, Some, None, inl, inr, refl, subst, arith}
use Rattle.std.specs.Prelude.{option_and_then}
use Rattle.std.proofs.lemmas.Bool.{cases_Bool}
use Rattle.std.proofs.lemmas.Bool.Decides.{nat_tests}
use Rattle.ow_base.specs.Pages.{Pages, is_readable}
use Rattle.record_layouts.specs.declared.desc.DescRec.{DescRec}
use Rattle.record_layouts.specs.declared.head.HeadRec.{HeadRec}
use Rattle.record_layouts.specs.declared.patch.PatchItem.{PatchItem}
use Rattle.record_layouts.specs.declared.proc.ProcRec.{ProcRec}
use Rattle.record_layouts.specs.declared.sig.SigRec.{SigRec}
use Rattle.record_layouts.specs.Unix.Calls.{tty_piece}
use Rattle.record_layouts.specs.Unix.State.{least_from}
use Rattle.record_layouts.specs.Held.{Records}
use Rattle.record_layouts.specs.Pages.{page_total}
use Rattle.frame_table.specs.Free.{free_before}
use Rattle.process_table.specs.Children.{child_slot}
use Rattle.process_table.specs.Slots.{is_free}
use Rattle.syscalls.specs.Planned.{PlanFork, PlanGrow, PlanOnce, PlanPut, PlanWrite, Planned, argument_of, break_of, caller_with, is_written, named, pages_more, planned_fork, planned_fork_in, planned_further, planned_number, planned_of_call, planned_on, planned_sbrk, planned_take, planned_tty, planned_wait, planned_wait_on, planned_write, planned_write_on, refuses_status}

-- a plan stores no word
abbrev NotPut : Planned → Type 0
NotPut (PlanOnce items) = Unit {0}
NotPut (PlanWrite tty from len items) = Unit {0}
NotPut (PlanGrow count items) = Unit {0}
NotPut (PlanFork child items) = Unit {0}
NotPut (PlanPut address status items) = ⊥

none_of_both : (test : Bool) (one other : Planned) → NotPut one → NotPut other → NotPut (if test then one else other)
none_of_both true one other a b = a
none_of_both false one other a b = b

-- a wait takes the child in a slot, and stores its status word
pub record IsTaken (r : Records) (pages : Pages) (slot trap : ℕ) (head : HeadRec) (process : ProcRec) (address status : ℕ) : Type 0 where
  pub place : ℕ
  pub child : ProcRec
  pub found : child_slot r process.pid ≡ Some place
  pub there : r.procs place ≡ Some child
  pub takes : refuses_status pages (caller_with slot trap head process) ≡ false
  pub asks : (argument_of process 0 == 0) ≡ false
  pub address_is : argument_of process 0 ≡ address
  pub status_is : child.status ≡ status

module _ (r : Records) (pages : Pages) (slot trap : ℕ) (head : HeadRec) (process : ProcRec) where
  tty_not : (tty done : ℕ) → NotPut (planned_tty pages (caller_with slot trap head process) tty done)
  unfolding planned_tty
  tty_not tty done = none_of_both (is_readable pages (argument_of process 1 + done) (tty_piece (argument_of process 2) done)) _ _ tt tt

  on_not : (d : DescRec) (done : ℕ) → NotPut (planned_on pages (caller_with slot trap head process) d done)
  on_not d done = none_of_both (d.object == 1) _ _ tt (tty_not d.index done)

  write_not : (held : Option DescRec) → NotPut (planned_write_on pages (caller_with slot trap head process) held)
  unfolding planned_write_on
  write_not None = tt
  write_not (Some d) =
      none_of_both (not (is_written d)) _ _ tt
      (none_of_both (nat_lt 0x7fffffff (argument_of process 2)) _ _ tt
      (none_of_both (argument_of process 2 == 0) _ _ tt (on_not d 0)))

  further_not : (held : Option DescRec) → NotPut (planned_further pages (caller_with slot trap head process) held)
  further_not (Some d) = on_not d process.done
  further_not None = tt

  sbrk_not : NotPut (planned_sbrk r (caller_with slot trap head process))
  unfolding planned_sbrk
  sbrk_not = none_of_both (nat_lt 0x400000 (break_of process + argument_of process 0) || nat_lt (free_before r r.map.user_frames) (pages_more process (argument_of process 0))) _ _ tt tt

  fork_in_not : (child : Option ℕ) (signals : Option SigRec) → NotPut (planned_fork_in r (caller_with slot trap head process) child signals)
  fork_in_not (Some child) (Some signals) =
      none_of_both (nat_lt 256 head.next) _ _ tt (none_of_both (nat_lt (free_before r r.map.user_frames) (page_total process)) _ _ tt tt)
  fork_in_not (Some child) None = tt
  fork_in_not None signals = tt

  fork_not : NotPut (planned_fork r (caller_with slot trap head process))
  unfolding planned_fork
  fork_not = fork_in_not (least_from (λ place. is_free r (r.procs place)) 0 16) (r.sigs slot)

  module _ (address status : ℕ) (items : List PatchItem) where
    absurd_put : (plan : Planned) → NotPut plan → plan ≡ PlanPut address status items → ⊥
    absurd_put plan none is = subst NotPut is none

    on_child : (place : ℕ) (child : ProcRec) → child_slot r process.pid ≡ Some place → r.procs place ≡ Some child → refuses_status pages (caller_with slot trap head process) ≡ false
        → planned_take (caller_with slot trap head process) place child ≡ PlanPut address status items → IsTaken r pages slot trap head process address status
    on_child place child found there takes is = elim (cases_Bool (argument_of process 0 == 0)) [
      | inl none ↦ absurd (cc (rw none at is))
      | inr asks ↦
          let both = rw asks at is in
          record { place = place; child = child; found = found; there = there; takes = takes; asks = asks; address_is = cc both; status_is = cc both }
    ]

    on_place : (place : ℕ) (held : Option ProcRec) → child_slot r process.pid ≡ Some place → r.procs place ≡ held
        → planned_wait_on r pages (caller_with slot trap head process) (Some place) held ≡ PlanPut address status items → IsTaken r pages slot trap head process address status
    on_place place (Some child) found there is = elim (cases_Bool (refuses_status pages (caller_with slot trap head process))) [
      | inl refuses ↦ absurd (cc (rw refuses at is))
      | inr takes ↦ on_child place child found there takes (rw takes at is)
    ]
    on_place place None found there is = absurd (cc is)

    on_slot : (found : Option ℕ) → child_slot r process.pid ≡ found → planned_wait_on r pages (caller_with slot trap head process) found (option_and_then r.procs found) ≡ PlanPut address status items
        → IsTaken r pages slot trap head process address status
    on_slot (Some place) found is = on_place place (r.procs place) found refl is
    on_slot None found is = absurd (cc is)

    wait_taken : planned_wait r pages (caller_with slot trap head process) ≡ PlanPut address status items → IsTaken r pages slot trap head process address status
    unfolding planned_wait
    wait_taken is = on_slot (child_slot r process.pid) refl is

    -- so is each call that stores a word, and each further piece of one
    pub call_taken : (number : ℕ) → planned_number r pages (caller_with slot trap head process) number ≡ PlanPut address status items → (number ≡ 10) × IsTaken r pages slot trap head process address status
    unfolding planned_number planned_write
    call_taken number is = elim (cases_Bool (number == 1)) [
      | inl exits ↦ absurd (cc (rw exits at is))
      | inr no_exit ↦ elim (cases_Bool (number == 2)) [
        | inl writes ↦ absurd (absurd_put _ (write_not (named r process.descs (argument_of process 0))) (rw (no_exit, writes) at is))
        | inr no_write ↦ elim (cases_Bool (number == 7)) [
          | inl asks ↦ absurd (cc (rw (no_exit, no_write, asks) at is))
          | inr no_pid ↦ elim (cases_Bool (number == 8)) [
            | inl grows ↦ absurd (absurd_put _ sbrk_not (rw (no_exit, no_write, no_pid, grows) at is))
            | inr no_heap ↦ elim (cases_Bool (number == 9)) [
              | inl forks ↦ absurd (absurd_put _ fork_not (rw (no_exit, no_write, no_pid, no_heap, forks) at is))
              | inr no_fork ↦ elim (cases_Bool (number == 10)) [
                | inl waits ↦ (grind (arith, nat_tests, waits), wait_taken (rw (no_exit, no_write, no_pid, no_heap, no_fork, waits) at is))
                | inr no_wait ↦ elim (cases_Bool (number == 18)) [
                  | inl yields ↦ absurd (cc (rw (no_exit, no_write, no_pid, no_heap, no_fork, no_wait, yields) at is))
                  | inr none ↦ absurd (cc (rw (no_exit, no_write, no_pid, no_heap, no_fork, no_wait, none) at is))
                ]
              ]
            ]
          ]
        ]
      ]
    ]

    pub piece_taken : planned_of_call r pages (caller_with slot trap head process) ≡ PlanPut address status items → (process.call ≡ 10) × IsTaken r pages slot trap head process address status
    piece_taken is = elim (cases_Bool (process.call == 2)) [
      | inl writes ↦ absurd (absurd_put _ (further_not (named r process.descs (argument_of process 0))) (rw writes at is))
      | inr no_write ↦ elim (cases_Bool (process.call == 10)) [
        | inl waits ↦ (grind (arith, nat_tests, waits), wait_taken (rw (no_write, waits) at is))
        | inr none ↦ absurd (cc (rw (no_write, none) at is))
      ]
    ]
