-- Decode: the state of the Unix that records, the words of pages and the terminals' tapes stand for. Files, and a
-- machine that has panicked, are not told yet.
use Rattle.std.specs.Prelude.{ℕ, ◌+◌, ◌-◌, ◌/◌, ◌%◌, Bool, false, ◌==◌, ◌&&◌, if◌then◌else◌, List, [], ◌∷◌, ◌++◌, length, replicate, map, Option, Some, None, is_some}
use Rattle.ow_base.specs.Words.{bits}
use Rattle.ow_base.specs.Sv32.{WordMap}
use Rattle.ow_base.specs.declared.machine.Bank.{Bank}
use Rattle.record_layouts.specs.declared.head.HeadRec.{HeadRec}
use Rattle.record_layouts.specs.declared.proc.ProcRec.{ProcRec}
use Rattle.record_layouts.specs.declared.sig.SigRec.{SigRec}
use Rattle.record_layouts.specs.declared.desc.DescRec.{DescRec}
use Rattle.record_layouts.specs.declared.term.TermRec.{TermRec}
use Rattle.record_layouts.specs.declared.exit.ExitRec.{ExitRec}
use Rattle.record_layouts.specs.Unix.State.{most_pids, Unix, Process, CallState, Out, In, EndedChild, Description, Object, OnFile, OnTty, Terminal, Position, AtKernel, AtUser, in_use}
use Rattle.record_layouts.specs.Unix.Choice.{least_from}
use Rattle.record_layouts.specs.Held.{Records}
use Rattle.record_layouts.specs.Desc.{is_on_file, is_on_nothing, is_open_to_read, is_open_to_write}
use Rattle.record_layouts.specs.Exit.{tells_ended, tells_live}
use Rattle.record_layouts.specs.Pages.{has_ended, is_in_call, is_live, is_mapped, pages_of}

-- what the processor has of a process in user mode: the pid, the instructions since the return to it, and its bank
pub data Context : Type 0 where
  InKernel : Context
  InUser : (pid count : ℕ) → Bank → Context

-- the slot in which a pid is live
abbrev pub slot_by : Option ExitRec → Option ℕ
slot_by (Some exit) = if tells_live exit then Some exit.value else None
slot_by None = None

abbrev pub is_number : Option ℕ → (number : ℕ) → Bool
is_number (Some n) number = n == number
is_number None number = false

-- the pid that is live in a slot, the least where there are several
unfoldable pub pid_in : Records → (slot : ℕ) → Option ℕ
pid_in r slot = least_from (λ pid. is_number (slot_by (r.exits pid)) slot) 1 most_pids

abbrev pub call_of : ProcRec → CallState
call_of process = if is_in_call process then In process.call process.done else Out

-- descriptor words: 0 is none, else the description's number and one
abbrev pub descriptor_of : (word : ℕ) → Option ℕ
descriptor_of word = if word == 0 then None else Some (word - 1)

abbrev pub handlers_of : Option SigRec → List ℕ
handlers_of (Some signals) = signals.handlers
handlers_of None = replicate 15 0

abbrev pub is_pending : Option SigRec → (signal : ℕ) → Bool
is_pending (Some signals) signal = bits signals.pending signal 1 == 1
is_pending None signal = false

-- the contexts that are saved, as the flags tell
abbrev pub handler_save_of : ProcRec → Option Bank
handler_save_of process = if process.flags % 2 == 1 then Some process.handler_save else None

abbrev pub procedure_save_of : ProcRec → Option (Bank × ℕ)
procedure_save_of process = if process.flags / 2 == 1 then Some (process.crash_save, process.mask) else None

-- the process that a record in a slot is
unfoldable pub process_of : Records → WordMap → (slot : ℕ) → ProcRec → Process
process_of r words slot process = record {
  call = call_of process;
  bank = record { pc = process.pc; regs = process.regs };
  pages = pages_of r words slot process;
  brk = process.brk;
  descriptors = map descriptor_of process.descs;
  handlers = handlers_of (r.sigs slot);
  pending = is_pending (r.sigs slot);
  handler_save = handler_save_of process;
  procedure = process.procedure;
  procedure_save = procedure_save_of process;
  parent = process.parent;
}

-- a process decodes where the head does, its record is that of this pid and it goes on, and all its pages have frames
abbrev pub decodes : Records → (slot pid : ℕ) → ProcRec → Bool
decodes r slot pid process = is_some r.head && is_live process && process.pid == pid && is_mapped r slot process

abbrev pub process_by : Records → WordMap → (slot pid : ℕ) → Option ProcRec → Option Process
process_by r words slot pid (Some process) = if decodes r slot pid process then Some (process_of r words slot process) else None
process_by r words slot pid None = None

abbrev pub process_in : Records → WordMap → (pid : ℕ) → Option ℕ → Option Process
process_in r words pid (Some slot) = if is_number (pid_in r slot) pid then process_by r words slot pid (r.procs slot) else None
process_in r words pid None = None

-- the live process with a pid
unfoldable pub process_at : Records → WordMap → (pid : ℕ) → Option Process
process_at r words pid = process_in r words pid (slot_by (r.exits pid))

-- in user mode the processor has the registers and the pc
abbrev pub with_bank : Bank → Option Process → Option Process
with_bank bank (Some process) = Some (record process { bank = bank })
with_bank bank None = None

unfoldable pub processes_of : Records → WordMap → Context → (pid : ℕ) → Option Process
processes_of r words InKernel pid = process_at r words pid
processes_of r words (InUser user count bank) pid = if pid == user then with_bank bank (process_at r words pid) else process_at r words pid

-- a record of an ended process, of this pid
abbrev pub is_ended_as : (pid : ℕ) → Option ProcRec → Bool
is_ended_as pid (Some process) = has_ended process && process.pid == pid
is_ended_as pid None = false

-- an ended child: its parent is live
abbrev pub ended_by : (processes : ℕ → Option Process) → Option ProcRec → Option EndedChild
ended_by processes (Some process) =
    if is_some (processes process.parent) then Some (record { parent = process.parent; status = process.status }) else None
ended_by processes None = None

abbrev pub ended_in : Records → (processes : ℕ → Option Process) → Option ℕ → Option EndedChild
ended_in r processes (Some slot) = ended_by processes (r.procs slot)
ended_in r processes None = None

unfoldable pub ended_of : Records → (processes : ℕ → Option Process) → (pid : ℕ) → Option EndedChild
ended_of r processes pid = ended_in r processes (least_from (λ slot. is_ended_as pid (r.procs slot)) 0 16)

-- an open description
abbrev pub object_of : DescRec → Object
object_of description = if is_on_file description then OnFile description.index else OnTty description.index

abbrev pub description_by : Option DescRec → Option Description
description_by (Some d) = if is_on_nothing d then None else
    Some (record { object = object_of d; reads = is_open_to_read d; writes = is_open_to_write d; offset = d.offset })
description_by None = None

-- a terminal: where its record counts one byte more than the tape has, that byte is its last
abbrev pub tape_by : List ℕ → TermRec → List ℕ
tape_by tape terminal = if terminal.written == length tape + 1 then tape ++ terminal.last ∷ [] else tape

abbrev pub terminal_by : List ℕ → Option TermRec → Terminal
terminal_by tape (Some terminal) = record { tape = tape_by tape terminal; base = terminal.base; consumed = terminal.consumed }
terminal_by tape None = record { tape = tape; base = 0; consumed = 0 }

abbrev pub status_by : Option ExitRec → Option ℕ
status_by (Some exit) = if tells_ended exit then Some exit.value else None
status_by None = None

abbrev pub next_by : Option HeadRec → ℕ
next_by (Some head) = head.next
next_by None = 1

-- the process in user mode is the last one that ran; else the head tells
abbrev pub last_by : Option HeadRec → Context → ℕ
last_by head (InUser pid count bank) = pid
last_by (Some head) InKernel = head.last
last_by None InKernel = 0

abbrev pub position_by : Context → Position
position_by InKernel = AtKernel
position_by (InUser pid count bank) = AtUser pid count

-- Decode, with the steps and traps that are counted beside the records
unfoldable pub unix_of : Records → WordMap → (tapes : ℕ → List ℕ) → Context → (steps traps : ℕ) → Unix
unix_of r words tapes context steps traps =
    let processes = processes_of r words context in
    record {
      processes = processes;
      ended = ended_of r processes;
      descriptions = in_use processes (λ number. description_by (r.descs number));
      files = λ _. None;
      room = r.map.user_frames;
      terminals = λ tty. terminal_by (tapes tty) (r.terms tty);
      exits = λ pid. status_by (r.exits pid);
      next_pid = next_by r.head;
      last_pid = last_by r.head context;
      steps = steps;
      traps = traps;
      position = position_by context;
    }
