-- The laws as they are exported.
use Rattle.std.proofs.Common.{◌≡◌, ℕ, ◌+◌, true, List, Option, Some, IfSome, refl, sym, ap, subst, ◌∙◌}
use Rattle.ow_base.specs.Sv32.{WordMap}
use Rattle.ow_base.specs.declared.machine.Bank.{Bank}
use Rattle.record_layouts.specs.declared.head.HeadRec.{HeadRec}
use Rattle.record_layouts.specs.declared.proc.ProcRec.{ProcRec}
use Rattle.record_layouts.specs.Unix.State.{Process}
use Rattle.record_layouts.specs.Unix.Calls.{call_entered, piece_of}
use Rattle.record_layouts.specs.Held.{Records}
use Rattle.record_layouts.specs.Pages.{is_mapped}
use Rattle.record_layouts.specs.Decode.{Context, InKernel, InUser, process_of, processes_of, unix_of}
use Rattle.record_layouts.specs.Sound.{IsIn, AreSound}
use Rattle.process_table.specs.Meaning.{IsOf}
use Rattle.syscalls.specs.Done.{AreCountedFrames, IsDone}
use Rattle.syscalls.specs.Planned.{planned_call, planned_piece}
use Rattle.syscalls.specs.Serving.{CanCall, IsInside}
use Rattle.syscalls.proofs.Becoming.{bank_by, caller_decodes}
use Rattle.syscalls.proofs.Entered.{served_call}
use Rattle.syscalls.proofs.Further.{served_further}

-- the process of a pid is the one that its records are
caller_is : (r : Records) (words : WordMap) (context : Context) (slot : ℕ) (process : ProcRec) (p : Process) → AreSound r → IsIn r slot process → IsOf context process.pid
    → processes_of r words context process.pid ≡ Some p → record (process_of r words slot process) { bank = bank_by context process } ≡ p
caller_is r words context slot process p sound is of held =
    let caller : Process = record (process_of r words slot process) { bank = bank_by context process } in
    let both : Some caller ≡ Some p = sym (caller_decodes r words context slot process sound is of) ∙ held in
    cc

pub entered_then : (r : Records) (words : WordMap) (tapes : ℕ → List ℕ) (slot trap count : ℕ) (head : HeadRec) (process : ProcRec) (bank : Bank)
    (steps traps : ℕ) (p : Process) (done : Records) (done_words : WordMap) (done_tapes : ℕ → List ℕ)
    → AreSound r → r.head ≡ Some head → IsIn r slot process
    → (unix_of r words tapes (InUser process.pid count bank) steps traps).processes process.pid ≡ Some p
    → AreCountedFrames r
    → IsDone r words tapes slot process (planned_call r words slot trap head process bank) done done_words done_tapes
    → unix_of done done_words done_tapes InKernel (steps + 1) (traps + 1) ≡ call_entered (unix_of r words tapes (InUser process.pid count bank) steps traps) process.pid p
unfolding unix_of
entered_then r words tapes slot trap count head process bank steps traps p done done_words done_tapes sound is_head is held counted served =
    served_call r head slot process trap words tapes (InUser process.pid count bank) steps traps sound is_head is refl counted done done_words done_tapes served
    ∙ ap (call_entered (unix_of r words tapes (InUser process.pid count bank) steps traps) process.pid) (caller_is r words (InUser process.pid count bank) slot process p sound is refl held)

pub is_inside : (r : Records) (slot : ℕ) (process : ProcRec) → AreSound r → IsIn r slot process → process.state ≡ 2 → IsInside r (r.procs slot)
is_inside r slot process sound is state = subst (IsInside r) (sym is.there) (state, sound.in_calls.calls slot process is state)

pub goes_on_then : (r : Records) (words : WordMap) (tapes : ℕ → List ℕ) (slot trap : ℕ) (head : HeadRec) (process : ProcRec)
    (steps traps : ℕ) (p : Process) (done : Records) (done_words : WordMap) (done_tapes : ℕ → List ℕ)
    → AreSound r → r.head ≡ Some head → IsIn r slot process → process.state ≡ 2
    → (unix_of r words tapes InKernel steps traps).processes process.pid ≡ Some p
    → IsDone r words tapes slot process (planned_piece r words slot trap head process) done done_words done_tapes
    → unix_of done done_words done_tapes InKernel (steps + 1) (traps + 1) ≡ piece_of (unix_of r words tapes InKernel steps traps) process.pid p
unfolding unix_of
goes_on_then r words tapes slot trap head process steps traps p done done_words done_tapes sound is_head is state held served =
    served_further r head slot process trap words tapes steps traps sound is_head is done done_words done_tapes state served
    ∙ ap (piece_of (unix_of r words tapes InKernel steps traps) process.pid) (caller_is r words InKernel slot process p sound is tt held)

pub can_call : (r : Records) (slot : ℕ) (process : ProcRec) → AreSound r → IsIn r slot process → CanCall r slot
can_call r slot process sound is = record {
  within = is.within;
  complete = sound.complete;
  mapped = subst (λ (held : Option ProcRec). IfSome held (λ p. is_mapped r slot p ≡ true)) (sym is.there) (sound.mapped.mapped slot process is);
}
