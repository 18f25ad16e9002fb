-- Which process is next.
use Rattle.std.specs.Prelude.{ℕ, zero, suc, ◌+◌, ◌-◌, Bool, true, false, nat_lt, not, ◌==◌, ◌||◌, if◌then◌else◌, Option, Some, None, is_some}
unfoldable pub use Rattle.record_layouts.specs.Unix.State.{least_from}
unfoldable pub use Rattle.record_layouts.specs.Unix.Children.{is_any}
use Rattle.record_layouts.specs.Unix.Children.{has_child, has_ended_child}
use Rattle.record_layouts.specs.Unix.State.{most_pids, Unix, Process, Description, Object, OnFile, OnTty, CallState, Out, In, Position, AtKernel, AtUser, AtPanic}
use Rattle.record_layouts.specs.Unix.Calls.{argument, description_of}

-- of each terminal, how many of its typed bytes have arrived by the coming trap, and how many there are in all
pub record Keys : Type 0 where
  pub arrived : ℕ → ℕ
  pub typed : ℕ → ℕ

-- nothing is typed
abbrev pub no_keys : Keys
no_keys = record { arrived = λ _. 0; typed = λ _. 0 }

abbrev pub or_else : Option ℕ → Option ℕ → Option ℕ
or_else (Some n) other = Some n
or_else None other = other

-- the signal that goes next to a process: 9 before all others, which wait while a handler runs, then the least
unfoldable pub deliverable : Process → Option ℕ
deliverable p =
    if p.pending 9 then Some 9 else
    if is_some p.handler_save then None else least_from p.pending 1 15

-- a read of a terminal can go on where the next typed byte has arrived, or all have and there is no next one
abbrev pub read_from : Keys → Unix → Object → Bool
read_from keys u (OnTty tty) = nat_lt (u.terminals tty).consumed (keys.arrived tty) || keys.arrived tty == keys.typed tty
read_from keys u (OnFile file) = true

abbrev pub read_goes_on : Keys → Unix → Option Description → Bool
read_goes_on keys u (Some description) = read_from keys u description.object
read_goes_on keys u None = false

-- a call in progress can go on: a write (2) always, a read (3) as said, and a wait (10) where a child has ended or
-- there is none
unfoldable pub goes_on : Keys → Unix → (pid : ℕ) → Process → (number : ℕ) → Bool
goes_on keys u pid p number =
    if number == 2 then true else
    if number == 3 then read_goes_on keys u (description_of u p (argument p 0)) else
    if number == 10 then has_ended_child u pid || not (has_child u pid) else false

abbrev pub can_run : Keys → Unix → (pid : ℕ) → Process → CallState → Bool
can_run keys u pid p Out = true
can_run keys u pid p (In number done) = goes_on keys u pid p number

-- a process is runnable where a signal can be delivered, it is outside a call, or its call can go on
abbrev pub is_runnable : Keys → Unix → (pid : ℕ) → Option Process → Bool
is_runnable keys u pid (Some p) = is_some (deliverable p) || can_run keys u pid p p.call
is_runnable keys u pid None = false

-- the runnable process with the least pid above the last one that had a trap or a slice, else with the least
unfoldable pub chosen : Keys → Unix → Option ℕ
chosen keys u =
    let test = λ (pid : ℕ). is_runnable keys u pid (u.processes pid) in
    or_else (least_from test (u.last_pid + 1) (most_pids - u.last_pid)) (least_from test 1 most_pids)

-- this process is live, or one of the others is
abbrev pub live_or : Option Process → Bool → Bool
live_or (Some p) others = true
live_or None others = others

-- some process is live, of so many from the first pid on
unfoldable pub is_any_live : (processes : ℕ → Option Process) → (first count : ℕ) → Bool
is_any_live processes first zero = false
is_any_live processes first (suc n) = live_or (processes first) (is_any_live processes (first + 1) n)

-- some process is live
abbrev pub has_live_process : Unix → Bool
has_live_process u = is_any_live u.processes 1 most_pids

-- control returns to a process outside a call to which no signal goes; another one stays in the kernel
abbrev pub returned_as : Unix → (pid : ℕ) → (signal : Option ℕ) → CallState → Unix
returned_as u pid (Some signal) call = u
returned_as u pid None Out = record u { position = AtUser pid 0; last_pid = pid }
returned_as u pid None (In number done) = u

abbrev pub settled_to : Unix → (pid : ℕ) → Option Process → Unix
settled_to u pid (Some p) = returned_as u pid (deliverable p) p.call
settled_to u pid None = u

abbrev pub settled_on : Unix → Option ℕ → Unix
settled_on u (Some pid) = settled_to u pid (u.processes pid)
settled_on u None = u

abbrev pub settled_at : Keys → Unix → Position → Unix
settled_at keys u AtKernel = settled_on u (chosen keys u)
settled_at keys u (AtUser pid count) = u
settled_at keys u (AtPanic caller) = u

-- Settle: in the kernel, control returns to the chosen process where it is outside a call and no signal goes to it
unfoldable pub settled : Keys → Unix → Unix
settled keys u = settled_at keys u u.position
