-- The records that are set when a trap of a process ends.
use Rattle.std.specs.Prelude.{◌≡◌, ℕ, ◌+◌, ◌-◌, ◌*◌, ◌/◌, ◌^◌, ◌==◌, if◌then◌else◌, List, [], ◌∷◌, replicate, slice_index, bit_and, IfSome}
use Rattle.std.specs.Int.{bit_not, w32}
use Rattle.ow_base.specs.Words.{wrapped, minus}
use Rattle.ow_base.specs.UserStep.{with_register}
use Rattle.ow_base.specs.declared.machine.Bank.{Bank}
use Rattle.record_layouts.specs.declared.head.HeadRec.{HeadRec}
use Rattle.record_layouts.specs.declared.proc.ProcRec.{ProcRec}
use Rattle.record_layouts.specs.declared.sig.SigRec.{SigRec}
use Rattle.record_layouts.specs.declared.exit.ExitRec.{ExitRec}
use Rattle.record_layouts.specs.declared.places.RecordId.TheVariants as id
use Rattle.record_layouts.specs.declared.patch.AnyRec.TheVariants as any
use Rattle.record_layouts.specs.declared.patch.PatchItem.{PatchItem}
use Rattle.record_layouts.specs.Held.{Records}
use Rattle.record_layouts.specs.Pages.{is_in_call}
use Rattle.process_table.specs.Choosing.{signal_by}

-- the trap is done, and the process with this pid had it
abbrev pub head_item : HeadRec → (trap pid : ℕ) → PatchItem
head_item head trap pid = record { id = id.Head; rec = any.Head (record head { served = trap; last = pid }) }

abbrev pub process_item : (slot : ℕ) → ProcRec → PatchItem
process_item slot process = record { id = id.Proc slot; rec = any.Proc process }

-- registers and pc of a process
abbrev pub bank_of : ProcRec → Bank
bank_of process = record { pc = process.pc; regs = process.regs }

abbrev pub blank_bank : Bank
blank_bank = record { pc = 0; regs = replicate 31 0 }

-- what is left of a process that has ended: pid and parent, and the status word
abbrev pub ended_process : ProcRec → (status : ℕ) → ProcRec
ended_process process status = record {
  state = 3;
  pid = process.pid;
  parent = process.parent;
  call = 0;
  done = 0;
  code_pages = 0;
  data_pages = 0;
  brk = 0;
  procedure = 0;
  mask = 0;
  flags = 0;
  status = status;
  descs = replicate 8 0;
  regs = replicate 31 0;
  pc = 0;
  handler_save = blank_bank;
  crash_save = blank_bank;
}

abbrev pub ended_exit : (status : ℕ) → ExitRec
ended_exit status = record { state = 2; value = status }

unfoldable pub ended_items : HeadRec → (slot : ℕ) → ProcRec → (status trap : ℕ) → List PatchItem
ended_items head slot process status trap =
    head_item head trap process.pid ∷ process_item slot (ended_process process status)
    ∷ record { id = id.Exit process.pid; rec = any.Exit (ended_exit status) } ∷ []

-- the process has this bank
abbrev pub saved_process : ProcRec → Bank → ProcRec
saved_process process bank = record process { pc = bank.pc; regs = bank.regs }

unfoldable pub saved_items : HeadRec → (slot : ℕ) → ProcRec → Bank → (trap : ℕ) → List PatchItem
saved_items head slot process bank trap = head_item head trap process.pid ∷ process_item slot (saved_process process bank) ∷ []

-- a call in progress ends with the bytes done, or with EINTR 4 where there are none
abbrev pub interrupted : ProcRec → ProcRec
interrupted process =
    if is_in_call process
    then record process {
      state = 1;
      call = 0;
      done = 0;
      pc = wrapped (process.pc + 4);
      regs = with_register process.regs 10 (if process.done == 0 then minus 4 else process.done);
    }
    else process

-- a handler runs: registers and pc are saved, a0 is the signal and pc the handler
abbrev pub in_handler : ProcRec → (signal handler : ℕ) → ProcRec
in_handler process signal handler = record process {
  flags = process.flags / 2 * 2 + 1;
  handler_save = bank_of process;
  pc = handler;
  regs = with_register process.regs 10 signal;
}

-- handler 1 drops the signal
abbrev pub signalled_process : ProcRec → (signal handler : ℕ) → ProcRec
signalled_process process signal handler = if handler == 1 then process else in_handler (interrupted process) signal handler

-- the signal is not pending any more
abbrev pub without_signal : SigRec → (signal : ℕ) → SigRec
without_signal signals signal = record signals { pending = bit_and signals.pending (bit_not w32 (2 ^ signal)) }

abbrev pub handler_of : SigRec → (signal : ℕ) → ℕ
handler_of signals signal = slice_index signals.handlers (signal - 1)

-- handler 0 ends the process with status word 0x100 + signal
unfoldable pub signal_items : HeadRec → (slot : ℕ) → ProcRec → SigRec → (signal trap : ℕ) → List PatchItem
signal_items head slot process signals signal trap =
    if handler_of signals signal == 0 then ended_items head slot process (0x100 + signal) trap else
    head_item head trap process.pid ∷ process_item slot (signalled_process process signal (handler_of signals signal))
    ∷ record { id = id.Sig slot; rec = any.Sig (without_signal signals signal) } ∷ []

-- the process behind its call, with an answer in a0
abbrev pub answered_process : ProcRec → (answer : ℕ) → ProcRec
answered_process process answer = record process {
  state = 1;
  call = 0;
  done = 0;
  pc = wrapped (process.pc + 4);
  regs = with_register process.regs 10 answer;
}

-- a process forks: the head after it, and the child, which is a copy of the process behind its call with another pid and
-- the process as its parent
abbrev pub forked_head : HeadRec → (trap pid : ℕ) → HeadRec
forked_head head trap pid = record head { served = trap; last = pid; next = head.next + 1 }

abbrev pub forked_process : ProcRec → (pid : ℕ) → ProcRec
forked_process process pid = record (answered_process process 0) { pid = pid; parent = process.pid }

-- the child has the handlers of the process, and no signal is pending
abbrev pub forked_signals : SigRec → (pid : ℕ) → SigRec
forked_signals signals pid = record { pid = pid; pending = 0; handlers = signals.handlers }

abbrev pub forked_exit : (child : ℕ) → ExitRec
forked_exit child = record { state = 1; value = child }

-- the process of a slot is answered with the next pid, under which the child is in its own slot
unfoldable pub fork_items : HeadRec → (slot child : ℕ) → ProcRec → SigRec → (trap : ℕ) → List PatchItem
fork_items head slot child process signals trap =
    record { id = id.Head; rec = any.Head (forked_head head trap process.pid) }
    ∷ process_item slot (answered_process process head.next) ∷ process_item child (forked_process process head.next)
    ∷ record { id = id.Sig child; rec = any.Sig (forked_signals signals head.next) }
    ∷ record { id = id.Exit head.next; rec = any.Exit (forked_exit child) } ∷ []

-- a slot that is free
abbrev pub free_process : ProcRec
free_process = record {
  state = 0;
  pid = 0;
  parent = 0;
  call = 0;
  done = 0;
  code_pages = 0;
  data_pages = 0;
  brk = 0;
  procedure = 0;
  mask = 0;
  flags = 0;
  status = 0;
  descs = replicate 8 0;
  regs = replicate 31 0;
  pc = 0;
  handler_save = blank_bank;
  crash_save = blank_bank;
}

-- the process of a slot is answered with the pid of a child that has ended, and the child's slot is free
unfoldable pub wait_items : HeadRec → (slot : ℕ) → ProcRec → (place pid : ℕ) → (trap : ℕ) → List PatchItem
wait_items head slot process place pid trap =
    head_item head trap process.pid ∷ process_item slot (answered_process process pid) ∷ process_item place free_process ∷ []

-- the same of the process in a slot
abbrev pub IsEnding : Records → (slot status trap : ℕ) → List PatchItem → Type 0
IsEnding r slot status trap items =
    IfSome r.head (λ head. IfSome (r.procs slot) (λ process. items ≡ ended_items head slot process status trap))

abbrev pub IsSaving : Records → (slot : ℕ) → Bank → (trap : ℕ) → List PatchItem → Type 0
IsSaving r slot bank trap items =
    IfSome r.head (λ head. IfSome (r.procs slot) (λ process. items ≡ saved_items head slot process bank trap))

abbrev pub IsSignalling : Records → (slot trap : ℕ) → List PatchItem → Type 0
IsSignalling r slot trap items =
    IfSome r.head (λ head. IfSome (r.procs slot) (λ process. IfSome (r.sigs slot) (λ signals.
    IfSome (signal_by process (r.sigs slot)) (λ signal. items ≡ signal_items head slot process signals signal trap))))
