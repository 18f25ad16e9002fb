-- Records of which the head alone says that a trap is served: they stand for the same state.
use Rattle.std.proofs.Common.{◌≡◌, ◌∙◌, ◌+◌, ℕ, if◌then◌else◌, List, Option, Some, None, refl, sym, ap}
use Rattle.ow_base.specs.Sv32.{WordMap}
use Rattle.ow_base.specs.declared.machine.Bank.{Bank}
use Rattle.record_layouts.specs.declared.head.HeadRec.{HeadRec}
use Rattle.record_layouts.specs.declared.proc.ProcRec.{ProcRec}
use Rattle.record_layouts.specs.Unix.State.{AtKernel, Process, Unix, in_use}
use Rattle.record_layouts.specs.Unix.Calls.{trapped}
use Rattle.record_layouts.specs.Unix.Choice.{least_from}
use Rattle.record_layouts.specs.Unix.Turn.{closed, idled}
use Rattle.record_layouts.specs.Held.{Records, with_items}
use Rattle.record_layouts.specs.Pages.{is_mapped}
use Rattle.record_layouts.specs.Decode.{InKernel, InUser, decodes, description_by, ended_in, ended_of, is_ended_as, is_number, last_by, next_by, pid_in, process_at, process_by, process_in, process_of, processes_of, slot_by, status_by, terminal_by, unix_of}
use Rattle.record_layouts.specs.Sound.{IsIn, AreSound}
use Rattle.process_table.specs.Patches.{saved_items}
use Rattle.process_table.proofs.Saving.{saved_unix}
use Rattle.syscalls.proofs.Altered.{decoded_stays, mapped_stays}
use Rattle.kernel_traps.specs.Traps.{served_items}
use Rattle.kernel_traps.proofs.Plans.{served_records}

-- what is counted beside the records
counted_more : (r : Records) (words : WordMap) (tapes : ℕ → List ℕ) (steps traps : ℕ) → unix_of r words tapes InKernel (steps + 1) (traps + 1) ≡ idled (unix_of r words tapes InKernel steps traps)
unfolding unix_of idled
counted_more r words tapes steps traps = refl

closed_more : (r : Records) (words : WordMap) (tapes : ℕ → List ℕ) (steps traps : ℕ) → unix_of r words tapes InKernel steps (traps + 1) ≡ closed (unix_of r words tapes InKernel steps traps)
unfolding unix_of closed
closed_more r words tapes steps traps = refl

module _ (r : Records) (head : HeadRec) (trap : ℕ) (words : WordMap) (is_head : r.head ≡ Some head) where
  abbrev then_r : Records
  then_r = served_records r head trap

  mapped : (slot : ℕ) (process : ProcRec) → is_mapped then_r slot process ≡ is_mapped r slot process
  mapped slot process = mapped_stays r (Some (record head { served = trap })) r.procs r.terms r.rows slot process

  decoded : (slot : ℕ) (process : ProcRec) → process_of then_r words slot process ≡ process_of r words slot process
  decoded slot process = decoded_stays r (Some (record head { served = trap })) r.procs r.terms r.rows words slot process

  decodes_still : (slot pid : ℕ) (process : ProcRec) → decodes then_r slot pid process ≡ decodes r slot pid process
  decodes_still slot pid process = rw (mapped slot process, is_head) refl

  process_by-still : (slot pid : ℕ) (held : Option ProcRec) → process_by then_r words slot pid held ≡ process_by r words slot pid held
  process_by-still slot pid (Some process) = λ i. if decodes_still slot pid process i then Some (decoded slot process i) else None
  process_by-still slot pid None = refl

  process_in-still : (pid : ℕ) (held : Option ℕ) → process_in then_r words pid held ≡ process_in r words pid held
  unfolding pid_in
  process_in-still pid (Some slot) = ap (λ (p : Option Process). if is_number (pid_in r slot) pid then p else None) (process_by-still slot pid (r.procs slot))
  process_in-still pid None = refl

  processes_still : processes_of then_r words InKernel ≡ processes_of r words InKernel
  unfolding processes_of process_at
  processes_still = λ i pid. process_in-still pid (slot_by (r.exits pid)) i

  ended_in-still : (ps : ℕ → Option Process) (held : Option ℕ) → ended_in then_r ps held ≡ ended_in r ps held
  ended_in-still ps (Some slot) = refl
  ended_in-still ps None = refl

  ended_still : (ps : ℕ → Option Process) → ended_of then_r ps ≡ ended_of r ps
  unfolding ended_of
  ended_still ps = λ i pid. ended_in-still ps (least_from (λ slot. is_ended_as pid (r.procs slot)) 0 16) i

  pub served_unix : (tapes : ℕ → List ℕ) (steps traps : ℕ) → unix_of then_r words tapes InKernel steps traps ≡ unix_of r words tapes InKernel steps traps
  unfolding unix_of
  served_unix tapes steps traps = λ i. record {
    processes = processes_still i;
    ended = (ended_still (processes_of then_r words InKernel) ∙ ap (ended_of r) processes_still) i;
    descriptions = in_use (processes_still i) (λ number. description_by (r.descs number));
    files = λ _. None;
    room = r.map.user_frames;
    terminals = λ tty. terminal_by (tapes tty) (r.terms tty);
    exits = λ pid. status_by (r.exits pid);
    next_pid = sym (ap next_by is_head) i;
    last_pid = sym (ap (λ (held : Option HeadRec). last_by held InKernel) is_head) i;
    steps = steps;
    traps = traps;
    position = AtKernel;
  }

  -- an idle trap, and a closing one
  pub idle_unix : (tapes : ℕ → List ℕ) (steps traps : ℕ) → unix_of (with_items r (served_items head trap)) words tapes InKernel (steps + 1) (traps + 1) ≡ idled (unix_of r words tapes InKernel steps traps)
  idle_unix tapes steps traps = served_unix tapes (steps + 1) (traps + 1) ∙ counted_more r words tapes steps traps

  pub closed_unix : (tapes : ℕ → List ℕ) (steps traps : ℕ) → unix_of (with_items r (served_items head trap)) words tapes InKernel steps (traps + 1) ≡ closed (unix_of r words tapes InKernel steps traps)
  closed_unix tapes steps traps = served_unix tapes steps (traps + 1) ∙ closed_more r words tapes steps traps

-- a closing trap of a process in user mode
pub closed_in_user : (r : Records) (head : HeadRec) (slot : ℕ) (process : ProcRec) (bank : Bank) (trap : ℕ) (words : WordMap) (tapes : ℕ → List ℕ) (count steps traps : ℕ)
    → AreSound r → r.head ≡ Some head → IsIn r slot process → process.state ≡ 1
    → unix_of (with_items r (saved_items head slot process bank trap)) words tapes InKernel steps (traps + 1) ≡ closed (unix_of r words tapes (InUser process.pid count bank) steps traps)
unfolding unix_of trapped closed
closed_in_user r head slot process bank trap words tapes count steps traps sound is_head is out =
    ap (λ (u : Unix). record u { steps = steps }) (saved_unix r head slot process bank trap words tapes count steps traps sound is_head is out)
