-- Abort: what a panic that is survived makes of a state, and the fate of each process.
use Rattle.std.specs.Prelude.{ℕ, zero, suc, ◌+◌, Bool, true, false, not, ◌&&◌, ◌||◌, ◌==◌, if◌then◌else◌, List, [], ◌∷◌, length, replicate, map, bit_or, Option, Some, None, is_some}
use Rattle.ow_base.specs.Words.{wrapped, minus}
use Rattle.ow_base.specs.UserStep.{with_register}
use Rattle.ow_base.specs.declared.machine.Bank.{Bank}
use Rattle.record_layouts.specs.Unix.State.{most_pids, Unix, Process, CallState, Out, In, EndedChild, Object, OnFile, OnTty, Description, Terminal, Position, AtKernel, AtUser, AtPanic, in_use}
use Rattle.record_layouts.specs.Unix.Calls.{call_number}
use Rattle.record_layouts.specs.Unix.Wounds.{Wounds, Reset}
use Rattle.record_layouts.specs.declared.fates.Fate.{Fate}
use Rattle.record_layouts.specs.declared.fates.Fate.TheVariants as fate

-- exit 1, sigreturn 14, crashreturn 16 and yield 18 are made again, and each other call is answered as aborted
abbrev pub is_made_again : (number : ℕ) → Bool
is_made_again number = number == 1 || number == 14 || number == 16 || number == 18

abbrev pub stands_at : Option ℕ → Bool
stands_at (Some number) = is_made_again number
stands_at None = false

abbrev pub is_aborted : Option ℕ → Bool
is_aborted (Some number) = not (is_made_again number)
is_aborted None = false

-- the trap that the panic broke was the entry of a call of this process, and is undone
abbrev pub is_undone_caller : Position → (pid : ℕ) → Bool
is_undone_caller (AtPanic caller) pid = caller == pid
is_undone_caller AtKernel pid = false
is_undone_caller (AtUser user count) pid = false

-- The call that the panic found a process in: the one in progress, or the one that it entered in the broken trap. The
-- number of that one is in a7.
abbrev pub call_by : (is_caller : Bool) → Process → CallState → Option ℕ
call_by is_caller p (In number done) = Some number
call_by is_caller p Out = if is_caller then Some (call_number p) else None

abbrev pub call_at : Unix → (pid : ℕ) → Process → Option ℕ
call_at v pid p = call_by (is_undone_caller v.position pid) p p.call

-- registers and pc once the call is over: an aborted one is answered ECRASH 200, and one that is made again still stands
abbrev pub after_call : Option ℕ → Bank → Bank
after_call call bank =
    if is_aborted call then record { pc = wrapped (bank.pc + 4); regs = with_register bank.regs 10 (minus 200) } else bank

-- a file or a terminal passes the test of its kind, and so does what a description is open on
abbrev pub passes : (file_test tty_test : ℕ → Bool) → Object → Bool
passes file_test tty_test (OnFile file) = file_test file
passes file_test tty_test (OnTty tty) = tty_test tty

abbrev pub is_open_on : (file_test tty_test : ℕ → Bool) → Option Description → Bool
is_open_on file_test tty_test (Some d) = passes file_test tty_test d.object
is_open_on file_test tty_test None = false

-- A descriptor is closed where its description cannot be read, or the record of its file cannot. Nothing else is asked of
-- one whose description cannot be read.
abbrev pub is_closed : Unix → Wounds → Option ℕ → Bool
is_closed v x (Some number) = x.descs number || is_open_on x.reset (λ tty. false) (v.descriptions number)
is_closed v x None = false

-- a page of its file may be lost
abbrev pub has_lost_page : Unix → Wounds → Option ℕ → Bool
has_lost_page v x (Some number) = not (x.descs number) && is_open_on x.paged (λ tty. false) (v.descriptions number)
has_lost_page v x None = false

-- its terminal is reset
abbrev pub is_on_reset_tty : Unix → Wounds → Option ℕ → Bool
is_on_reset_tty v x (Some number) = not (x.descs number) && is_open_on (λ file. false) (λ tty. is_some (x.ttys tty)) (v.descriptions number)
is_on_reset_tty v x None = false

-- one of these descriptors passes the test
unfoldable pub has_passing : (test : Option ℕ → Bool) → List (Option ℕ) → Bool
has_passing test [] = false
has_passing test (d ∷ ds) = test d || has_passing test ds

abbrev pub bit_if : Bool → (value : ℕ) → ℕ
bit_if test value = if test then value else 0

-- What a process lost, by its descriptors as they stood: 1 for a closed one, 2 for a page that may be lost, 4 for a
-- terminal that is reset, and 8 for its signals.
unfoldable pub bits_lost : Unix → Wounds → (pid : ℕ) → Process → ℕ
bits_lost v x pid p =
    bit_if (has_passing (is_closed v x) p.descriptors) 1 + bit_if (has_passing (has_lost_page v x) p.descriptors) 2
    + bit_if (has_passing (is_on_reset_tty v x) p.descriptors) 4 + bit_if (x.sigs pid) 8

-- what its crash procedure is told: this, and 16 for a call that was aborted
unfoldable pub bits_of : Unix → Wounds → (pid : ℕ) → Process → ℕ
bits_of v x pid p = bits_lost v x pid p + bit_if (is_aborted (call_at v pid p)) 16

-- the mask and the saved context of a crash procedure: those of one that runs are joined and kept
abbrev pub mask_with : Option (Bank × ℕ) → (bits : ℕ) → ℕ
mask_with (Some saved) bits = bit_or saved.1 bits
mask_with None bits = bits

abbrev pub context_with : Option (Bank × ℕ) → Bank → Bank
context_with (Some saved) bank = saved.0
context_with None bank = bank

-- the fate of a process that lost nothing and has no crash procedure
abbrev pub fate_of_call : Option ℕ → Fate
fate_of_call (Some number) = if is_made_again number then fate.Stands else fate.Aborted
fate_of_call None = fate.Goes

-- the fate of a process
unfoldable pub fate_of : Unix → Wounds → (pid : ℕ) → Process → Fate
fate_of v x pid p =
    if x.core pid then fate.Lost 0 else
    if not (p.procedure == 0) then fate.Procedure (mask_with p.procedure_save (bits_of v x pid p)) else
    if bits_lost v x pid p == 0 then fate_of_call (call_at v pid p) else fate.Lost (bits_lost v x pid p)

-- a process is outside its call, with what is left of its descriptors, signals and pages
abbrev pub unless_closed : Unix → Wounds → Option ℕ → Option ℕ
unless_closed v x d = if is_closed v x d then None else d

unfoldable pub brought_out : Unix → Wounds → (pid : ℕ) → Process → Process
brought_out v x pid p = record p {
  call = Out;
  bank = after_call (call_at v pid p) p.bank;
  pages = record { rights = p.pages.rights; bytes = x.pages pid };
  descriptors = map (unless_closed v x) p.descriptors;
  handlers = if x.sigs pid then replicate 15 0 else p.handlers;
  pending = λ signal. if x.sigs pid then false else p.pending signal;
}

-- it enters its crash procedure: the context is saved, a0 is the mask and pc the procedure
abbrev pub in_procedure : (mask : ℕ) → Process → Process
in_procedure mask p = record p {
  bank = record { pc = p.procedure; regs = with_register p.bank.regs 10 mask };
  procedure_save = Some (context_with p.procedure_save p.bank, mask);
}

-- what its fate makes of it
abbrev pub kept_by : Fate → Process → Option Process
kept_by (fate.Lost bits) p = None
kept_by (fate.Procedure mask) p = Some (in_procedure mask p)
kept_by fate.Goes p = Some p
kept_by fate.Aborted p = Some p
kept_by fate.Stands p = Some p

abbrev pub survivor : Unix → Wounds → (pid : ℕ) → Option Process → Option Process
survivor v x pid (Some p) = kept_by (fate_of v x pid p) (brought_out v x pid p)
survivor v x pid None = None

-- a lost process has a status word of its own
abbrev pub status_by_fate : Fate → Option ℕ → Option ℕ
status_by_fate (fate.Lost bits) status = Some (0x300 + bits)
status_by_fate other status = status

abbrev pub exit_after : Unix → Wounds → (pid : ℕ) → Option Process → Option ℕ
exit_after v x pid (Some p) = status_by_fate (fate_of v x pid p) (v.exits pid)
exit_after v x pid None = v.exits pid

-- an ended child stays where its record can be read and its parent goes on
abbrev pub child_after : (is_gone : Bool) → (processes : ℕ → Option Process) → Option EndedChild → Option EndedChild
child_after true processes child = None
child_after false processes (Some child) = if is_some (processes child.parent) then Some child else None
child_after false processes None = None

-- a terminal that is reset: its screen counts from the end of its tape, and what has arrived is consumed
abbrev pub reset_to : Terminal → Option Reset → Terminal
reset_to terminal (Some r) = record { tape = r.tape; base = length r.tape; consumed = r.arrived }
reset_to terminal None = terminal

-- Abort
unfoldable pub abort : Unix → Wounds → Unix
abort v x =
    let processes = λ (pid : ℕ). survivor v x pid (v.processes pid) in
    record {
      processes = processes;
      ended = λ pid. child_after (x.gone pid) processes (v.ended pid);
      descriptions = in_use processes v.descriptions;
      files = x.files;
      room = v.room;
      terminals = λ tty. reset_to (v.terminals tty) (x.ttys tty);
      exits = λ pid. exit_after v x pid (v.processes pid);
      next_pid = v.next_pid;
      last_pid = if x.head then 0 else v.last_pid;
      steps = v.steps;
      traps = v.traps;
      position = AtKernel;
    }

-- the fate of each live process, in the order of the pids
abbrev pub fate_before : Unix → Wounds → (pid : ℕ) → Option Process → List (ℕ × Fate) → List (ℕ × Fate)
fate_before v x pid (Some p) rest = (pid, fate_of v x pid p) ∷ rest
fate_before v x pid None rest = rest

unfoldable pub fates_from : Unix → Wounds → (pid count : ℕ) → List (ℕ × Fate)
fates_from v x pid zero = []
fates_from v x pid (suc n) = fate_before v x pid (v.processes pid) (fates_from v x (pid + 1) n)

unfoldable pub fates : Unix → Wounds → List (ℕ × Fate)
fates v x = fates_from v x 1 most_pids

-- the fate that is told of a process
unfoldable pub fate_in : List (ℕ × Fate) → (pid : ℕ) → Option Fate
fate_in [] pid = None
fate_in (told ∷ rest) pid = if told.0 == pid then Some told.1 else fate_in rest pid
