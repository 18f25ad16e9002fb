-- What a signal does to a process.
use Rattle.std.specs.Prelude.{ℕ, ◌+◌, ◌-◌, false, ◌==◌, if◌then◌else◌, slice_index, Some}
use Rattle.ow_base.specs.Words.{wrapped, minus, updated}
use Rattle.ow_base.specs.UserStep.{with_register}
use Rattle.record_layouts.specs.Unix.State.{Unix, Process, CallState, Out, In}
use Rattle.record_layouts.specs.Unix.Calls.{trapped, with_process, ended_as}

-- a call in progress ends with the bytes done, or with EINTR 4 where there are none
abbrev pub interrupted_in : Process → CallState → Process
interrupted_in p Out = p
interrupted_in p (In number done) = record p {
  call = Out;
  bank = record { pc = wrapped (p.bank.pc + 4); regs = with_register p.bank.regs 10 (if done == 0 then minus 4 else done) };
}

-- the signal is not pending any more
abbrev pub without_signal : Process → (signal : ℕ) → Process
without_signal p signal = record p { pending = updated p.pending signal false }

-- the handler runs: registers and pc are saved, a0 is the signal and pc the handler
abbrev pub entered_in_handler : Process → (signal handler : ℕ) → Process
entered_in_handler p signal handler = record p {
  handler_save = Some p.bank;
  bank = record { pc = handler; regs = with_register p.bank.regs 10 signal };
}

-- handler 1 drops the signal and leaves a call as it is, handler 0 ends the process with status 0x100 + signal, and
-- another one runs
unfoldable pub signalled_by : Unix → (pid : ℕ) → Process → (signal handler : ℕ) → Unix
signalled_by u pid p signal handler =
    if handler == 0 then ended_as u pid p (0x100 + signal) else
    if handler == 1 then with_process u pid (without_signal p signal) else
    with_process u pid (entered_in_handler (interrupted_in (without_signal p signal) p.call) signal handler)

-- the trap of a signal
unfoldable pub signalled : Unix → (pid : ℕ) → Process → (signal : ℕ) → Unix
signalled u pid p signal = signalled_by (trapped u pid) pid p signal (slice_index p.handlers (signal - 1))
