-- Broken: the states that a trap may leave where a panic breaks it.
use Rattle.std.specs.Prelude.{◌≡◌, ℕ, ◌+◌, ◌≤◌, true, List, length, take, drop, Option, Some, None}
use Rattle.ow_base.specs.Words.{updated}
use Rattle.record_layouts.specs.Unix.Calls.{argument, asks_status, call_number, with_process, with_status}
use Rattle.record_layouts.specs.Unix.Children.{ended_child, status_of}
use Rattle.record_layouts.specs.Unix.Spaces.{takes_word}
use Rattle.record_layouts.specs.Unix.State.{Unix, Process, CallState, In, Out, Terminal, AtPanic}
use Rattle.record_layouts.specs.Unix.Choice.{Keys, settled}
use Rattle.record_layouts.specs.Unix.Traps.{after_trap, caller_of, pid_of, steps_in}
use Rattle.record_layouts.specs.declared.traps.Trap.{Trap}
use Rattle.record_layouts.specs.declared.traps.Trap.TheVariants as trap

-- the state that a trap begins from: the closing one takes a state as it is, and each other one the settled state
abbrev pub begun_from : Keys → Unix → Trap → Unix
begun_from keys u (trap.Closing pid) = u
begun_from keys u other = settled keys u

-- the process of a trap is the last one from then on
abbrev pub last_after : (pid : Option ℕ) → (last : ℕ) → ℕ
last_after (Some pid) last = pid
last_after None last = last

-- what a trap that begins from one state counts, in the state that it leaves
abbrev pub counted_as : Trap → (before left : Unix) → Unix
counted_as t before left = record left {
  steps = before.steps + steps_in t;
  traps = before.traps + 1;
  last_pid = last_after (pid_of t) before.last_pid;
}

-- a panic breaks a trap that begins from a state, and leaves this one
abbrev pub broken_as : Trap → (before : Unix) → (caller : ℕ) → (left : Unix) → Unix
broken_as t before caller left = record (counted_as t before left) { position = AtPanic caller }

-- nothing of the trap is done, or all of it
unfoldable pub undone_of : Trap → (before : Unix) → Unix
undone_of t before = broken_as t before (caller_of t) before

unfoldable pub done_of : Trap → (before : Unix) → Unix
done_of t before = broken_as t before 0 (after_trap before t)

-- the bytes that a trap writes on a terminal
abbrev pub bytes_put : Trap → (before : Unix) → (tty : ℕ) → List ℕ
bytes_put t before tty = drop (length (before.terminals tty).tape) ((after_trap before t).terminals tty).tape

-- so many of them are written, the first ones, and nothing else is done
abbrev pub with_bytes_put : Trap → (before : Unix) → (tty count : ℕ) → Terminal → Terminal
with_bytes_put t before tty count terminal = record terminal {
  tape = take (length terminal.tape + count) ((after_trap before t).terminals tty).tape;
}

unfoldable pub partly_put : Trap → (before : Unix) → (tty count : ℕ) → Unix
partly_put t before tty count =
    broken_as t before (caller_of t) (record before { terminals = updated before.terminals tty (with_bytes_put t before tty count (before.terminals tty)) })

-- the number of the call of which a trap of a process does a piece
abbrev pub number_in : CallState → Option ℕ
number_in (In number done) = Some number
number_in Out = None

abbrev pub call_of_trap : Trap → Process → Option ℕ
call_of_trap (trap.Entry pid) p = Some (call_number p)
call_of_trap (trap.Piece pid) p = number_in p.call
call_of_trap other p = None

-- the status word of a child is stored for a process that waits for it, and nothing else is done
unfoldable pub status_put : Trap → (before : Unix) → (pid : ℕ) → Process → (child : ℕ) → Unix
status_put t before pid p child =
    broken_as t before (caller_of t) (with_process before pid (with_status p (status_of (before.ended child))))

-- a wait (10) of this process stores the status word of this child
pub record StoresStatus (t : Trap) (before : Unix) (pid : ℕ) (p : Process) (child : ℕ) : Type 0 where
  pub is_live : before.processes pid ≡ Some p
  pub has_trap : pid_of t ≡ Some pid
  pub waits : call_of_trap t p ≡ Some 10
  pub finds : ended_child before pid ≡ Some child
  pub asks : asks_status p ≡ true
  pub takes : takes_word p.pages (argument p 0) ≡ true

-- What a trap may leave that begins from a state. Pieces of a write on a file and bytes that are read get cases of their
-- own once there are such calls. Each is told as the bytes on a terminal and the status of a child are: so much of it is
-- as the trap leaves it when it is done, and all else is as before.
pub data IsBrokenFrom (t : Trap) (before v : Unix) : Type 0 where
  IsUndone : v ≡ undone_of t before → IsBrokenFrom t before v
  IsDone : v ≡ done_of t before → IsBrokenFrom t before v
  IsPartlyPut : (tty count : ℕ) → count ≤ length (bytes_put t before tty) → v ≡ partly_put t before tty count → IsBrokenFrom t before v
  IsStatusPut : (pid : ℕ) (p : Process) (child : ℕ) → StoresStatus t before pid p child → v ≡ status_put t before pid p child → IsBrokenFrom t before v

-- Broken, of a trap that comes in a state
abbrev pub IsBroken : Keys → Unix → Trap → Unix → Type 0
IsBroken keys u t v = IsBrokenFrom t (begun_from keys u t) v
