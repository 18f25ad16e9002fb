-- A further piece of a call is that of the Unix.
use Rattle.std.proofs.Common.{◌≡◌, ◌==◌, ℕ, ◌+◌, List, Some, inl, inr, refl, sym, ap, ◌∙◌}
use Rattle.std.proofs.lemmas.Bool.{cases_Bool}
use Rattle.ow_base.specs.Sv32.{WordMap}
use Rattle.record_layouts.specs.declared.head.HeadRec.{HeadRec}
use Rattle.record_layouts.specs.declared.proc.ProcRec.{ProcRec}
use Rattle.record_layouts.specs.Unix.State.{Unix, Process, In}
use Rattle.record_layouts.specs.Unix.Calls.{continued, description_of, piece_by, piece_on, piece_of, trapped}
use Rattle.record_layouts.specs.Held.{Records}
use Rattle.record_layouts.specs.Decode.{InKernel, process_of, unix_of}
use Rattle.record_layouts.specs.Sound.{IsIn, AreSound}
use Rattle.process_table.specs.Patches.{bank_of}
use Rattle.syscalls.specs.Planned.{argument_of, named, planned_piece}
use Rattle.syscalls.specs.Done.{IsDone}
use Rattle.syscalls.proofs.Served.{names, served_held, served_nothing, served_waiting}
use Rattle.syscalls.proofs.Described.{described}

module _ (r : Records) (head : HeadRec) (slot : ℕ) (process : ProcRec) (trap : ℕ) (words : WordMap) (tapes : ℕ → List ℕ) (steps traps : ℕ)
    (sound : AreSound r) (is_head : r.head ≡ Some head) (is : IsIn r slot process) where
  abbrev in_kernel : Process
  in_kernel = record (process_of r words slot process) { bank = bank_of process }

  abbrev trapping : Unix
  trapping = trapped (unix_of r words tapes InKernel steps traps) process.pid

  further : (now : Records) (now_words : WordMap) (now_tapes : ℕ → List ℕ) → IsDone r words tapes slot process (planned_piece r words slot trap head process) now now_words now_tapes
      → unix_of now now_words now_tapes InKernel (steps + 1) (traps + 1) ≡ continued trapping process.pid in_kernel process.call process.done
  unfolding planned_piece continued
  further now now_words now_tapes served = elim (cases_Bool (process.call == 2)) [
    | inl writes ↦
        let held = named r process.descs (argument_of process 0) in
        let description : description_of trapping in_kernel (argument_of process 0) ≡ described held =
        names r head slot process trap words tapes InKernel steps traps sound is_head is tt (argument_of process 0) in
        rw writes (served_held r head slot process trap words tapes InKernel steps traps sound is_head is tt held now now_words now_tapes (rw writes at served)
        ∙ sym (ap (piece_on trapping process.pid in_kernel process.done) description))
    | inr no_write ↦ elim (cases_Bool (process.call == 10)) [
      | inl waits ↦ rw (no_write, waits)
          (served_waiting r head slot process trap words tapes InKernel steps traps sound is_head is tt now now_words now_tapes (rw (no_write, waits) at served))
      | inr other ↦ rw (no_write, other)
          (served_nothing r head slot process trap words tapes InKernel steps traps sound is_head is tt now now_words now_tapes (rw (no_write, other) at served))
    ]
  ]

  call_is : process.state ≡ 2 → in_kernel.call ≡ In process.call process.done
  unfolding process_of
  call_is state = rw state refl

  pub served_further : (now : Records) (now_words : WordMap) (now_tapes : ℕ → List ℕ) → process.state ≡ 2
      → IsDone r words tapes slot process (planned_piece r words slot trap head process) now now_words now_tapes
      → unix_of now now_words now_tapes InKernel (steps + 1) (traps + 1) ≡ piece_of (unix_of r words tapes InKernel steps traps) process.pid in_kernel
  unfolding piece_of
  served_further now now_words now_tapes state served =
      further now now_words now_tapes served ∙ sym (ap (piece_by (unix_of r words tapes InKernel steps traps) process.pid in_kernel) (call_is state))
