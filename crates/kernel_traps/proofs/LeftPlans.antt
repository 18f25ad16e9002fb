-- What the plan of a trap writes is short: at most 16 bytes, on a terminal that there is.
use Rattle.std.proofs.Common.{◌≡◌, ◌==◌, ◌||◌, ◌+◌, ◌-◌, ◌<◌, ℕ, nat_lt, false, List, slice_get, Option, Some, None, IfSome, option_and_then, inl, inr, arith}
use Rattle.std.proofs.lemmas.Bool.{cases_Bool}
use Rattle.std.proofs.lemmas.Bool.Decides.{nat_tests}
use Rattle.ow_base.specs.Pages.{Pages, is_readable}
use Rattle.phys_memory.specs.Memory.{words_of}
use Rattle.record_layouts.specs.declared.desc.DescRec.{DescRec}
use Rattle.record_layouts.specs.declared.head.HeadRec.{HeadRec}
use Rattle.record_layouts.specs.declared.places.RecordId.TheVariants as id
use Rattle.record_layouts.specs.declared.proc.ProcRec.{ProcRec}
use Rattle.record_layouts.specs.declared.sig.SigRec.{SigRec}
use Rattle.record_layouts.specs.Unix.State.{least_from}
use Rattle.record_layouts.specs.declared.traps.Trap.{Trap}
use Rattle.record_layouts.specs.declared.traps.Trap.TheVariants as trap
use Rattle.record_layouts.specs.Desc.{FitsDesc}
use Rattle.record_layouts.specs.Held.{AreValues, Records}
use Rattle.record_layouts.specs.Pages.{page_total, pages_of}
use Rattle.record_layouts.specs.Unix.Calls.{tty_piece}
use Rattle.ow_base.specs.UserStep.{register}
use Rattle.process_table.specs.Children.{child_slot}
use Rattle.process_table.specs.Patches.{saved_process}
use Rattle.process_table.specs.Slots.{is_free}
use Rattle.frame_table.specs.Free.{free_before}
use Rattle.syscalls.specs.Planned.{argument_of, break_of, caller_with, if_open, is_written, named, named_by, pages_more, planned_call, planned_fork, planned_fork_in, planned_further, planned_number, planned_of_call, planned_on, planned_piece, planned_sbrk, planned_take, planned_tty, planned_wait, planned_wait_on, planned_write, planned_write_on, refuses_status}
use Rattle.ow_plant.specs.State.{PlantState, now_of}
use Rattle.intent_store.specs.Live.{records_held}
use Rattle.kernel_traps.specs.Traps.{plan_for}
use Rattle.kernel_traps.proofs.Carried.{IsShort}

-- a description that is on no file is on a terminal, or on nothing and has the number 0
on_terminal : (d : DescRec) → FitsDesc d → (d.object == 1) ≡ false → d.index < 2
on_terminal d (inl closed) other = omega (arith, closed.index)
on_terminal d (inr (inl file)) other = absurd (let object = file.object in grind (arith, nat_tests, other, object))
on_terminal d (inr (inr terminal)) other = omega (arith, terminal.index)

-- what a descriptor names can be spelled
open_fits : (held : Option DescRec) → IfSome held FitsDesc → IfSome (if_open held) FitsDesc
open_fits None fits = tt
open_fits (Some d) fits = elim (cases_Bool (d.object == 0)) [ inl none ↦ rw none tt | inr some ↦ rw some fits ]

named_by_fits : (r : Records) → AreValues r → (held : Option ℕ) → IfSome (named_by r.descs held) FitsDesc
named_by_fits r values None = tt
named_by_fits r values (Some word) = elim (cases_Bool (word == 0)) [
  | inl none ↦ rw none tt
  | inr some ↦ rw some (open_fits (r.descs (word - 1)) (values (id.Desc (word - 1))))
]

named_fits : (r : Records) → AreValues r → (words : List ℕ) (descriptor : ℕ) → IfSome (named r words descriptor) FitsDesc
unfolding named
named_fits r values words descriptor = named_by_fits r values (slice_get words descriptor)

module _ (r : Records) (values : AreValues r) (pages : Pages) (slot trap : ℕ) (head : HeadRec) (process : ProcRec) where
  tty_short : (tty done : ℕ) → tty < 2 → IsShort (planned_tty pages (caller_with slot trap head process) tty done)
  unfolding planned_tty
  tty_short tty done low = elim (cases_Bool (is_readable pages (argument_of process 1 + done) (tty_piece (argument_of process 2) done))) [
    | inl all ↦ rw all (low, omega arith)
    | inr some ↦ rw some tt
  ]

  object_short : (d : DescRec) (done : ℕ) → FitsDesc d → IsShort (planned_on pages (caller_with slot trap head process) d done)
  object_short d done fits = elim (cases_Bool (d.object == 1)) [
    | inl file ↦ rw file tt
    | inr other ↦ rw other (tty_short d.index done (on_terminal d fits other))
  ]

  write_short : (held : Option DescRec) → IfSome held FitsDesc → IsShort (planned_write_on pages (caller_with slot trap head process) held)
  unfolding planned_write_on
  write_short None fits = tt
  write_short (Some d) fits = elim (cases_Bool (is_written d)) [
    | inr reads ↦ rw reads tt
    | inl writes ↦ elim (cases_Bool (nat_lt 0x7fffffff (argument_of process 2))) [
      | inl many ↦ rw (writes, many) tt
      | inr few ↦ elim (cases_Bool (argument_of process 2 == 0)) [
        | inl none ↦ rw (writes, few, none) tt
        | inr some ↦ rw (writes, few, some) (object_short d 0 fits)
      ]
    ]
  ]

  sbrk_short : IsShort (planned_sbrk r (caller_with slot trap head process))
  unfolding planned_sbrk
  sbrk_short = elim (cases_Bool (nat_lt 0x400000 (break_of process + argument_of process 0) || nat_lt (free_before r r.map.user_frames) (pages_more process (argument_of process 0)))) [
    | inl none ↦ rw none tt
    | inr some ↦ rw some tt
  ]

  fork_short : IsShort (planned_fork r (caller_with slot trap head process))
  unfolding planned_fork
  fork_short = fork_short_in (least_from (λ place. is_free r (r.procs place)) 0 16) (r.sigs slot) where
    fork_short_in : (child : Option ℕ) (signals : Option SigRec) → IsShort (planned_fork_in r (caller_with slot trap head process) child signals)
    fork_short_in (Some child) (Some signals) = elim (cases_Bool (nat_lt 256 head.next)) [
      | inl none ↦ rw none tt
      | inr some ↦ elim (cases_Bool (nat_lt (free_before r r.map.user_frames) (page_total process))) [
        | inl none ↦ rw (some, none) tt
        | inr room ↦ rw (some, room) tt
      ]
    ]
    fork_short_in (Some child) None = tt
    fork_short_in None signals = tt

  take_short : (place : ℕ) (child : ProcRec) → IsShort (planned_take (caller_with slot trap head process) place child)
  take_short place child = elim (cases_Bool (argument_of process 0 == 0)) [
    | inl none ↦ rw none tt
    | inr some ↦ rw some tt
  ]

  wait_short : IsShort (planned_wait r pages (caller_with slot trap head process))
  unfolding planned_wait
  wait_short = wait_short_on (child_slot r process.pid) (option_and_then r.procs (child_slot r process.pid)) where
    wait_short_on : (place : Option ℕ) (child : Option ProcRec) → IsShort (planned_wait_on r pages (caller_with slot trap head process) place child)
    wait_short_on (Some place) (Some child) = elim (cases_Bool (refuses_status pages (caller_with slot trap head process))) [
      | inl bad ↦ rw bad tt
      | inr fine ↦ rw fine (take_short place child)
    ]
    wait_short_on (Some place) None = tt
    wait_short_on None child = tt

  number_short : (number : ℕ) → IsShort (planned_number r pages (caller_with slot trap head process) number)
  unfolding planned_number planned_write
  number_short number = elim (cases_Bool (number == 1)) [
    | inl exits ↦ rw exits tt
    | inr no_exit ↦ elim (cases_Bool (number == 2)) [
      | inl writes ↦ rw (no_exit, writes) (write_short (named r process.descs (argument_of process 0)) (named_fits r values process.descs (argument_of process 0)))
      | inr no_write ↦ elim (cases_Bool (number == 7)) [
        | inl asks ↦ rw (no_exit, no_write, asks) tt
        | inr no_pid ↦ elim (cases_Bool (number == 8)) [
          | inl grows ↦ rw (no_exit, no_write, no_pid, grows) sbrk_short
          | inr no_heap ↦ elim (cases_Bool (number == 9)) [
            | inl forks ↦ rw (no_exit, no_write, no_pid, no_heap, forks) fork_short
            | inr no_fork ↦ elim (cases_Bool (number == 10)) [
              | inl waits ↦ rw (no_exit, no_write, no_pid, no_heap, no_fork, waits) wait_short
              | inr no_wait ↦ elim (cases_Bool (number == 18)) [
                | inl yields ↦ rw (no_exit, no_write, no_pid, no_heap, no_fork, no_wait, yields) tt
                | inr none ↦ rw (no_exit, no_write, no_pid, no_heap, no_fork, no_wait, none) tt
              ]
            ]
          ]
        ]
      ]
    ]
  ]

  further_short : (held : Option DescRec) → IfSome held FitsDesc → IsShort (planned_further pages (caller_with slot trap head process) held)
  further_short None fits = tt
  further_short (Some d) fits = object_short d process.done fits

  piece_short : IsShort (planned_of_call r pages (caller_with slot trap head process))
  piece_short = elim (cases_Bool (process.call == 2)) [
    | inl writes ↦ rw writes (further_short (named r process.descs (argument_of process 0)) (named_fits r values process.descs (argument_of process 0)))
    | inr no_write ↦ elim (cases_Bool (process.call == 10)) [
      | inl waits ↦ rw (no_write, waits) wait_short
      | inr other ↦ rw (no_write, other) tt
    ]
  ]

-- so is what each trap writes: only a call, or a further piece of one, does
pub plan_short : (s : PlantState) (t : Trap) (slot : ℕ) (head : HeadRec) (process : ProcRec) → AreValues (records_held s) → IsShort (plan_for s t slot head process)
unfolding planned_call planned_piece
plan_short s (trap.Entry pid) slot head process values =
    number_short (records_held s) values (pages_of (records_held s) (words_of s.memory) slot process)
    slot (now_of s).trap head (saved_process process s.bank) (register s.bank.regs 17)
plan_short s (trap.Piece pid) slot head process values =
    piece_short (records_held s) values (pages_of (records_held s) (words_of s.memory) slot process) slot (now_of s).trap head process
plan_short s (trap.Fault pid cause) slot head process values = tt
plan_short s (trap.Slice pid) slot head process values = tt
plan_short s (trap.Signal pid signal) slot head process values = tt
plan_short s trap.Idle slot head process values = tt
plan_short s (trap.Closing (Some pid)) slot head process values = tt
plan_short s (trap.Closing None) slot head process values = tt
