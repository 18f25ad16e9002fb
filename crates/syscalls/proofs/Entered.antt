-- The call that a process makes, by its number: what it makes of the records is what it makes of the state that they stand
-- for.
use Rattle.std.proofs.Common.{◌≡◌, ◌==◌, ℕ, ◌+◌, List, Some, inl, inr, sym, ap, ◌∙◌}
use Rattle.std.proofs.lemmas.Bool.{cases_Bool}
use Rattle.ow_base.specs.Sv32.{WordMap}
use Rattle.ow_base.specs.Words.{minus}
use Rattle.ow_base.specs.UserStep.{register}
use Rattle.record_layouts.specs.declared.head.HeadRec.{HeadRec}
use Rattle.record_layouts.specs.declared.proc.ProcRec.{ProcRec}
use Rattle.record_layouts.specs.Unix.State.{Process, Unix}
use Rattle.record_layouts.specs.Unix.Calls.{call_entered, called, getpid_entry, trapped, write_entry, write_through}
use Rattle.record_layouts.specs.Held.{Records}
use Rattle.record_layouts.specs.Pages.{pages_of}
use Rattle.record_layouts.specs.Decode.{Context, InKernel, process_of, unix_of}
use Rattle.record_layouts.specs.Sound.{AreSound, IsIn}
use Rattle.process_table.specs.Meaning.{IsOf}
use Rattle.process_table.specs.Patches.{saved_process}
use Rattle.syscalls.specs.Planned.{argument_of, caller_with, named, planned_call, planned_number, planned_write}
use Rattle.syscalls.specs.Done.{AreCountedFrames, IsDone}
use Rattle.syscalls.proofs.Becoming.{bank_by}
use Rattle.syscalls.proofs.ForkServed.{served_fork}
use Rattle.syscalls.proofs.Served.{names, served_answer, served_exit, served_sbrk, served_waiting, served_yield, write_by}

module _ (r : Records) (head : HeadRec) (slot : ℕ) (process : ProcRec) (trap : ℕ) (words : WordMap) (tapes : ℕ → List ℕ) (context : Context) (steps traps : ℕ)
    (sound : AreSound r) (is_head : r.head ≡ Some head) (is : IsIn r slot process) (of : IsOf context process.pid) where
  abbrev saved : ProcRec
  saved = saved_process process (bank_by context process)

  abbrev caller : Process
  caller = record (process_of r words slot process) { bank = bank_by context process }

  abbrev state : Unix
  state = trapped (unix_of r words tapes context steps traps) process.pid

  abbrev Ends : Records → WordMap → (ℕ → List ℕ) → Unix → Type 0
  Ends done done_words done_tapes u = unix_of done done_words done_tapes InKernel (steps + 1) (traps + 1) ≡ u

  served_number : AreCountedFrames r → (number : ℕ) (now : Records) (now_words : WordMap) (now_tapes : ℕ → List ℕ)
      → IsDone r words tapes slot process (planned_number r (pages_of r words slot process) (caller_with slot trap head saved) number) now now_words now_tapes
      → Ends now now_words now_tapes (called state process.pid caller number)
  unfolding planned_number planned_write called write_entry getpid_entry
  served_number counted number now now_words now_tapes served = elim (cases_Bool (number == 1)) [
    | inl exits ↦ rw exits (served_exit r head slot process trap words tapes context steps traps sound is_head is of now now_words now_tapes (rw exits at served))
    | inr no_exit ↦ elim (cases_Bool (number == 2)) [
      | inl writes ↦ rw (no_exit, writes)
          (write_by r head slot process trap words tapes context steps traps sound is_head is of (named r process.descs (argument_of saved 0)) now now_words now_tapes (rw (no_exit, writes) at served)
          ∙ sym (ap (write_through state process.pid caller) (names r head slot process trap words tapes context steps traps sound is_head is of (argument_of saved 0))))
      | inr no_write ↦ elim (cases_Bool (number == 7)) [
        | inl asks ↦ rw (no_exit, no_write, asks) (served_answer r head slot process trap words tapes context steps traps sound is_head is of process.pid now now_words now_tapes (rw (no_exit, no_write, asks) at served))
        | inr no_pid ↦ elim (cases_Bool (number == 8)) [
          | inl grows ↦ rw (no_exit, no_write, no_pid, grows) (served_sbrk r head slot process trap words tapes context steps traps sound is_head is of counted now now_words now_tapes (rw (no_exit, no_write, no_pid, grows) at served))
          | inr no_sbrk ↦ elim (cases_Bool (number == 9)) [
            | inl forks ↦ rw (no_exit, no_write, no_pid, no_sbrk, forks) (served_fork r head slot process trap words tapes context steps traps sound is_head is of now now_words now_tapes counted (rw (no_exit, no_write, no_pid, no_sbrk, forks) at served))
            | inr no_fork ↦ elim (cases_Bool (number == 10)) [
              | inl waits ↦ rw (no_exit, no_write, no_pid, no_sbrk, no_fork, waits)
                  (served_waiting r head slot process trap words tapes context steps traps sound is_head is of now now_words now_tapes (rw (no_exit, no_write, no_pid, no_sbrk, no_fork, waits) at served))
              | inr no_wait ↦ elim (cases_Bool (number == 18)) [
                | inl yields ↦ rw (no_exit, no_write, no_pid, no_sbrk, no_fork, no_wait, yields) (served_yield r head slot process trap words tapes context steps traps sound is_head is of now now_words now_tapes (rw (no_exit, no_write, no_pid, no_sbrk, no_fork, no_wait, yields) at served))
                | inr none ↦ rw (no_exit, no_write, no_pid, no_sbrk, no_fork, no_wait, none) (served_answer r head slot process trap words tapes context steps traps sound is_head is of (minus 38) now now_words now_tapes (rw (no_exit, no_write, no_pid, no_sbrk, no_fork, no_wait, none) at served))
              ]
            ]
          ]
        ]
      ]
    ]
  ]

  -- the call that it makes
  pub served_call : AreCountedFrames r → (now : Records) (now_words : WordMap) (now_tapes : ℕ → List ℕ)
      → IsDone r words tapes slot process (planned_call r words slot trap head process (bank_by context process)) now now_words now_tapes
      → Ends now now_words now_tapes (call_entered (unix_of r words tapes context steps traps) process.pid caller)
  unfolding planned_call call_entered
  served_call counted now now_words now_tapes served = served_number counted (register (bank_by context process).regs 17) now now_words now_tapes served
