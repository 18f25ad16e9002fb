-- The records that a call sets are those of a process that ends, those of one that becomes another, or those of one that
-- takes a child which has ended.
use Rattle.std.proofs.Common.{◌≡◌, ◌⊎◌, ◌==◌, ◌||◌, ℕ, ◌+◌, ◌%◌, ◌≤◌, nat_lt, List, Option, Some, None, option_and_then, inl, inr, refl, sym, subst, arith}
use Rattle.std.proofs.lemmas.Bool.{cases_Bool}
use Rattle.ow_base.specs.Sv32.{WordMap}
use Rattle.ow_base.specs.Words.{minus}
use Rattle.ow_base.specs.UserStep.{register}
use Rattle.ow_base.specs.Pages.{Pages, is_readable}
use Rattle.ow_base.specs.declared.machine.Bank.{Bank}
use Rattle.record_layouts.specs.declared.desc.DescRec.{DescRec}
use Rattle.record_layouts.specs.declared.head.HeadRec.{HeadRec}
use Rattle.record_layouts.specs.declared.patch.PatchItem.{PatchItem}
use Rattle.record_layouts.specs.declared.proc.ProcRec.{ProcRec}
use Rattle.record_layouts.specs.Unix.Calls.{tty_piece}
use Rattle.record_layouts.specs.Held.{Records}
use Rattle.record_layouts.specs.Pages.{pages_of, live_one, page_total}
use Rattle.record_layouts.specs.Sound.{AreSound, IsIn}
use Rattle.frame_table.specs.Free.{free_before}
use Rattle.process_table.specs.Children.{child_slot}
use Rattle.process_table.specs.Meaning.{KeepDescriptors}
use Rattle.process_table.specs.Patches.{bank_of, ended_items, saved_process, wait_items, fork_items}
use Rattle.process_table.specs.Slots.{has_such, is_live_child, is_free}
use Rattle.process_table.proofs.Descriptors.{end_keeps, fork_keeps, set_keeps, wait_keeps}
use Rattle.syscalls.specs.Planned.{answered_process, argument_of, break_of, caller_with, grown_process, is_written, items_in, items_of, named, pages_more, planned_answer, planned_call, planned_further, planned_nothing, planned_number, planned_of_call, planned_on, planned_piece, planned_sbrk, planned_take, planned_tty, planned_wait, planned_wait_on, planned_write, planned_write_on, refuses_status, staying_process, stopped_answer, waiting_items, waiting_process, written_process, yielded_process, planned_fork, planned_fork_in}
use Rattle.syscalls.proofs.WaitPlan.{HasEnded, has_ended_there}
use Rattle.syscalls.proofs.ForkPlan.{none_in}
use Rattle.process_table.proofs.Least.{least_passes}
use Rattle.record_layouts.specs.Unix.Choice.{least_from}
use Rattle.record_layouts.specs.declared.sig.SigRec.{SigRec}

-- what a process becomes in a call that goes on or is answered; it is then in no call but a write, a wait, or the one it
-- was in
pub record IsServedAs (process after : ProcRec) : Type 0 where
  pub descs : after.descs ≡ process.descs
  pub call : after.state ≡ 2 → (after.call ≡ 2) ⊎ (after.call ≡ 10) ⊎ ((process.state ≡ 2) × (after.call ≡ process.call))

-- what holds of the records of each kind holds of those of each plan
module _ (P : List PatchItem → Type 0) (r : Records) (head : HeadRec) (slot trap : ℕ) (process : ProcRec) (bank : Bank) (is : IsIn r slot process) (pages : Pages)
    (ends : (status : ℕ) → status ≤ 0xff → P (ended_items head slot (saved_process process bank) status trap))
    (sets : (after : ProcRec) → IsServedAs process after → P (items_of (caller_with slot trap head (saved_process process bank)) after))
    (forks : (child : ℕ) (signals : SigRec) → live_one (r.procs child) ≡ None → P (fork_items head slot child (saved_process process bank) signals trap))
    (takes : (place : ℕ) (ended : HasEnded r place) → P (wait_items head slot (saved_process process bank) place ended.child.pid trap)) where
  abbrev saved : ProcRec
  saved = saved_process process bank

  answered : (answer : ℕ) → P (items_in (planned_answer (caller_with slot trap head saved) answer))
  answered answer = sets (answered_process saved answer) (record {
    descs = refl;
    call = λ s. absurd (omega (arith, s));
  })

  yielded : P (items_of (caller_with slot trap head saved) (yielded_process saved))
  yielded = sets (yielded_process saved) (record {
    descs = refl;
    call = λ s. absurd (omega (arith, s));
  })

  stayed : (done : ℕ) → P (items_of (caller_with slot trap head saved) (staying_process saved done))
  stayed done = sets (staying_process saved done) (record {
    descs = refl;
    call = λ s. inl refl;
  })

  nothing : P (items_in (planned_nothing (caller_with slot trap head saved)))
  nothing = sets saved (record {
    descs = refl;
    call = λ s. inr (inr (s, refl));
  })

  waits : P (items_of (caller_with slot trap head saved) (waiting_process saved))
  waits = sets (waiting_process saved) (record {
    descs = refl;
    call = λ s. inr (inl refl);
  })

  written : (count done : ℕ) → P (items_of (caller_with slot trap head saved) (written_process saved count done))
  written count done = elim (cases_Bool (done == count)) [ inl last ↦ rw last (answered count) | inr more ↦ rw more (stayed done) ]

  on_tty : (tty done : ℕ) → P (items_in (planned_tty pages (caller_with slot trap head saved) tty done))
  unfolding planned_tty
  on_tty tty done =
      let count = argument_of saved 2 in
      let piece = tty_piece count done in
      elim (cases_Bool (is_readable pages (argument_of saved 1 + done) piece)) [
        | inl all ↦ rw all (written count (done + piece))
        | inr some ↦ rw some (answered (stopped_answer done 14))
      ]

  on_object : (d : DescRec) (done : ℕ) → P (items_in (planned_on pages (caller_with slot trap head saved) d done))
  on_object d done = elim (cases_Bool (d.object == 1)) [ inl file ↦ rw file nothing | inr terminal ↦ rw terminal (on_tty d.index done) ]

  write_items : (held : Option DescRec) → P (items_in (planned_write_on pages (caller_with slot trap head saved) held))
  unfolding planned_write_on
  write_items None = answered (minus 9)
  write_items (Some d) = elim (cases_Bool (is_written d)) [
    | inr reads ↦ rw reads (answered (minus 9))
    | inl writes ↦ elim (cases_Bool (nat_lt 0x7fffffff (argument_of saved 2))) [
      | inl many ↦ rw (writes, many) (answered (minus 22))
      | inr few ↦ elim (cases_Bool (argument_of saved 2 == 0)) [
        | inl none ↦ rw (writes, few, none) (answered 0)
        | inr some ↦ rw (writes, few, some) (on_object d 0)
      ]
    ]
  ]

  grown : (bytes : ℕ) → P (items_of (caller_with slot trap head saved) (grown_process saved bytes))
  grown bytes = sets (grown_process saved bytes) (record {
    descs = refl;
    call = λ s. absurd (omega (arith, s));
  })

  sbrk_items : P (items_in (planned_sbrk r (caller_with slot trap head saved)))
  unfolding planned_sbrk
  sbrk_items =
      let bytes = argument_of saved 0 in
      elim (cases_Bool (nat_lt 0x400000 (break_of saved + bytes) || nat_lt (free_before r r.map.user_frames) (pages_more saved bytes))) [
        | inl full ↦ rw full (answered (minus 12))
        | inr room ↦ rw room (grown bytes)
      ]

  fork_by : (found : Option ℕ) (own : Option SigRec) → least_from (λ place. is_free r (r.procs place)) 0 16 ≡ found
      → P (items_in (planned_fork_in r (caller_with slot trap head saved) found own))
  fork_by None own place = answered (minus 11)
  fork_by (Some child) None place = answered (minus 11)
  fork_by (Some child) (Some signals) place = elim (cases_Bool (nat_lt 256 head.next)) [
    | inl none ↦ rw none (answered (minus 11))
    | inr left ↦ elim (cases_Bool (nat_lt (free_before r r.map.user_frames) (page_total saved))) [
      | inl full ↦ rw (left, full) (answered (minus 12))
      | inr room ↦ rw (left, room) (forks child signals (none_in r child (least_passes (λ place. is_free r (r.procs place)) 0 16 child place)))
    ]
  ]

  fork_by_records : P (items_in (planned_fork r (caller_with slot trap head saved)))
  unfolding planned_fork
  fork_by_records = fork_by (least_from (λ place. is_free r (r.procs place)) 0 16) (r.sigs slot) refl

  none_items : P (waiting_items r (caller_with slot trap head saved))
  none_items = elim (cases_Bool (has_such r (is_live_child process.pid))) [ inl lives ↦ rw lives waits | inr none ↦ rw none (answered (minus 10)) ]

  taken_items : (place : ℕ) (ended : HasEnded r place) → P (items_in (planned_take (caller_with slot trap head saved) place ended.child))
  taken_items place ended = elim (cases_Bool (argument_of saved 0 == 0)) [ inl nowhere ↦ rw nowhere (takes place ended) | inr somewhere ↦ rw somewhere (takes place ended) ]

  found_items : (place : ℕ) (ended : HasEnded r place) → P (items_in (planned_wait_on r pages (caller_with slot trap head saved) (Some place) (Some ended.child)))
  found_items place ended = elim (cases_Bool (refuses_status pages (caller_with slot trap head saved))) [
    | inl refuses ↦ rw refuses (answered (minus 14))
    | inr stored ↦ rw stored (taken_items place ended)
  ]

  wait_by : (found : Option ℕ) → child_slot r process.pid ≡ found → P (items_in (planned_wait_on r pages (caller_with slot trap head saved) found (option_and_then r.procs found)))
  wait_by None found = none_items
  wait_by (Some place) found =
      let ended = has_ended_there r process.pid place found in
      subst (λ (child : Option ProcRec). P (items_in (planned_wait_on r pages (caller_with slot trap head saved) (Some place) child))) (sym ended.there) (found_items place ended)

  wait_by_records : P (items_in (planned_wait r pages (caller_with slot trap head saved)))
  unfolding planned_wait
  wait_by_records = wait_by (child_slot r process.pid) refl

  pub number_items : (number : ℕ) → P (items_in (planned_number r pages (caller_with slot trap head saved) number))
  unfolding planned_number planned_write
  number_items number = elim (cases_Bool (number == 1)) [
    | inl exits ↦ rw exits (ends (argument_of saved 0 % 256) (omega arith))
    | inr no_exit ↦ elim (cases_Bool (number == 2)) [
      | inl writes ↦ rw (no_exit, writes) (write_items (named r process.descs (argument_of saved 0)))
      | inr no_write ↦ elim (cases_Bool (number == 7)) [
        | inl asks ↦ rw (no_exit, no_write, asks) (answered process.pid)
        | inr no_pid ↦ elim (cases_Bool (number == 8)) [
          | inl grows ↦ rw (no_exit, no_write, no_pid, grows) sbrk_items
          | inr no_sbrk ↦ elim (cases_Bool (number == 9)) [
            | inl forked ↦ rw (no_exit, no_write, no_pid, no_sbrk, forked) fork_by_records
            | inr no_fork ↦ elim (cases_Bool (number == 10)) [
              | inl waited ↦ rw (no_exit, no_write, no_pid, no_sbrk, no_fork, waited) wait_by_records
              | inr no_wait ↦ elim (cases_Bool (number == 18)) [
                | inl yields ↦ rw (no_exit, no_write, no_pid, no_sbrk, no_fork, no_wait, yields) yielded
                | inr none ↦ rw (no_exit, no_write, no_pid, no_sbrk, no_fork, no_wait, none) (answered (minus 38))
              ]
            ]
          ]
        ]
      ]
    ]
  ]

  further_items : (held : Option DescRec) → P (items_in (planned_further pages (caller_with slot trap head saved) held))
  further_items None = nothing
  further_items (Some d) = on_object d process.done

  pub piece_items : P (items_in (planned_of_call r pages (caller_with slot trap head saved)))
  piece_items = elim (cases_Bool (process.call == 2)) [
    | inl writes ↦ rw writes (further_items (named r process.descs (argument_of saved 0)))
    | inr other ↦ elim (cases_Bool (process.call == 10)) [
      | inl waited ↦ rw (other, waited) wait_by_records
      | inr neither ↦ rw (other, neither) nothing
    ]
  ]

-- so live processes keep their descriptors
module _ (r : Records) (head : HeadRec) (slot trap : ℕ) (process : ProcRec) (bank : Bank) (sound : AreSound r) (is : IsIn r slot process) where
  ended_keeps : (status : ℕ) → status ≤ 0xff → KeepDescriptors r (ended_items head slot (saved_process process bank) status trap)
  unfolding ended_items
  ended_keeps status small = end_keeps r head slot process status trap sound is

  served_keeps : (after : ProcRec) → IsServedAs process after → KeepDescriptors r (items_of (caller_with slot trap head (saved_process process bank)) after)
  served_keeps after served = set_keeps r head slot process after trap after.pid is served.descs

  forked_keeps : (child : ℕ) (signals : SigRec) → live_one (r.procs child) ≡ None
      → KeepDescriptors r (fork_items head slot child (saved_process process bank) signals trap)
  forked_keeps child signals none = fork_keeps r head slot child process bank signals trap is none

  taken_keeps : (place : ℕ) (ended : HasEnded r place) → KeepDescriptors r (wait_items head slot (saved_process process bank) place ended.child.pid trap)
  taken_keeps place ended = wait_keeps r head slot process bank place ended.child.pid trap is

pub call_keeps_descriptors : (r : Records) (words : WordMap) (slot trap : ℕ) (head : HeadRec) (process : ProcRec) (bank : Bank) → AreSound r → IsIn r slot process
    → KeepDescriptors r (items_in (planned_call r words slot trap head process bank))
unfolding planned_call
call_keeps_descriptors r words slot trap head process bank sound is =
    number_items (KeepDescriptors r) r head slot trap process bank is (pages_of r words slot process)
    (ended_keeps r head slot trap process bank sound is) (served_keeps r head slot trap process bank sound is)
    (forked_keeps r head slot trap process bank sound is) (taken_keeps r head slot trap process bank sound is) (register bank.regs 17)

pub piece_keeps_descriptors : (r : Records) (words : WordMap) (slot trap : ℕ) (head : HeadRec) (process : ProcRec) → AreSound r → IsIn r slot process
    → KeepDescriptors r (items_in (planned_piece r words slot trap head process))
unfolding planned_piece
piece_keeps_descriptors r words slot trap head process sound is =
    piece_items (KeepDescriptors r) r head slot trap process (bank_of process) is (pages_of r words slot process)
    (ended_keeps r head slot trap process (bank_of process) sound is) (served_keeps r head slot trap process (bank_of process) sound is)
    (forked_keeps r head slot trap process (bank_of process) sound is) (taken_keeps r head slot trap process (bank_of process) sound is)
