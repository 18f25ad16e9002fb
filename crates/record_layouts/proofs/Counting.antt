-- What traps count, and what they put on tapes.
use Rattle.std.proofs.Common.{◌≡◌, ◌∙◌, ◌+◌, ◌-◌, ◌%◌, ◌==◌, ℕ, nat_lt, Bool, true, false, List, [], ◌++◌, Option, Some, None, inl, inr, refl, sym, ap, subst, arith}
use Rattle.std.specs.Prelude.{if◌then◌else◌, nat_le, not, slice_index, ◌||◌}
use Rattle.std.proofs.lemmas.Bool.{cases_Bool}
use Rattle.std.proofs.lemmas.Bool.Decides.{nat_tests}
use Rattle.std.proofs.lemmas.List.{append-nil}
use Rattle.ow_base.specs.Words.{minus}
use Rattle.ow_base.specs.UserStep.{Stepped, Next, Call, Faulted}
use Rattle.ow_base.specs.Pages.{Pages, is_readable, bytes_at}
use Rattle.ow_base.specs.declared.machine.Shape.{Shape}
use Rattle.record_layouts.specs.Unix.State.{most_pids, Unix, Process, Terminal, Position, AtKernel, AtUser, AtPanic, CallState, Out, In, Object, OnFile, OnTty, Description}
use Rattle.record_layouts.specs.Unix.Choice.{Keys, no_keys, chosen, deliverable, settled, settled_at, settled_on, settled_to, returned_as}
use Rattle.record_layouts.specs.Unix.Calls.{argument, call_number, trapped, answered, stays_in, ended_as, description_of, tty_piece, tty_write, written_to, written_on, write_on, write_through, write_entry, exit_entry, getpid_entry, yield_entry, sbrk_entry, fork_entry, slots_taken, with_child, refuses_status, wait_entry, wait_for, waited_by, without_child, called, call_entered, piece_on, continued, piece_by, piece_of}
use Rattle.record_layouts.specs.Unix.Children.{ended_child, has_child, status_of}
use Rattle.record_layouts.specs.Unix.Spaces.{break_of, heap_end, heap_pages, pages_of_all, pages_of_one, with_zero_pages}
use Rattle.record_layouts.specs.Unix.Signals.{signalled, signalled_by}
use Rattle.record_layouts.specs.Unix.Turn.{closed, idled, step_of, stepped, turn}
use Rattle.record_layouts.specs.Unix.Traps.{pid_of, trap_of_step, trap_of_user, signal_or_piece_of, trap_if_live, trap_or_idle, trap_at, trap_of_turn, after_trap, instructed, instructed_by, steps_in, turned_by}
use Rattle.record_layouts.specs.Unix.Broken.{IsBroken, IsBrokenFrom, IsUndone, IsDone, IsPartlyPut, IsStatusPut, begun_from, done_of, last_after, partly_put, status_put, undone_of}
use Rattle.record_layouts.specs.declared.traps.Trap.{Trap}
use Rattle.record_layouts.specs.declared.traps.Trap.TheVariants as trap
use Rattle.record_layouts.proofs.Turning.{turn_is}

-- each tape of the one is a front of that of the other
abbrev pub HasTapesOf : (u w : Unix) → Type 0
HasTapesOf u w = (tty : ℕ) → (more : List ℕ) × ((w.terminals tty).tape ≡ (u.terminals tty).tape ++ more)

as_they_are : (u : Unix) → HasTapesOf u u
as_they_are u tty = ([], sym (append-nil (u.terminals tty).tape))

pub same_tapes : (u w : Unix) → w.terminals ≡ u.terminals → HasTapesOf u w
same_tapes u w same tty = ([], ap (λ (terminals : ℕ → Terminal). (terminals tty).tape) same ∙ sym (append-nil (u.terminals tty).tape))

put_tapes : (u : Unix) (tty : ℕ) (bytes : List ℕ) → HasTapesOf u (written_on u tty bytes)
put_tapes u tty bytes one = elim (cases_Bool (one == tty)) [
  | inl here ↦
      let same : one ≡ tty = grind (arith, nat_tests) in
      (bytes, rw here (ap (λ (n : ℕ). (u.terminals n).tape ++ bytes) (sym same)))
  | inr other ↦ ([], rw other (sym (append-nil (u.terminals one).tape)))
]

-- two states count the same, and the tapes of the one are fronts of those of the other
record AreAlike (u w : Unix) : Type 0 where
  steps : w.steps ≡ u.steps
  traps : w.traps ≡ u.traps
  last : w.last_pid ≡ u.last_pid
  tapes : HasTapesOf u w

itself : (u : Unix) → AreAlike u u
itself u = record { steps = refl; traps = refl; last = refl; tapes = as_they_are u }

if_alike : (u x y : Unix) (test : Bool) → AreAlike u x → AreAlike u y → AreAlike u (if test then x else y)
if_alike u x y true a b = a
if_alike u x y false a b = b

answered_alike : (u : Unix) (pid : ℕ) (p : Process) (answer : ℕ) → AreAlike u (answered u pid p answer)
unfolding answered
answered_alike u pid p answer = record { steps = refl; traps = refl; last = refl; tapes = as_they_are u }

ended_alike : (u : Unix) (pid : ℕ) (p : Process) (status : ℕ) → AreAlike u (ended_as u pid p status)
unfolding ended_as
ended_alike u pid p status = record { steps = refl; traps = refl; last = refl; tapes = as_they_are u }

written_alike : (u : Unix) (tty : ℕ) (bytes : List ℕ) (pid : ℕ) (p : Process) (count done : ℕ) → AreAlike u (written_to (written_on u tty bytes) pid p count done)
unfolding answered stays_in
written_alike u tty bytes pid p count done = elim (cases_Bool (done == count)) [
  | inl all ↦ rw all (record { steps = refl; traps = refl; last = refl; tapes = put_tapes u tty bytes })
  | inr some ↦ rw some (record { steps = refl; traps = refl; last = refl; tapes = put_tapes u tty bytes })
]

write_alike : (u : Unix) (pid : ℕ) (p : Process) (done : ℕ) (object : Object) → AreAlike u (write_on u pid p done object)
unfolding tty_write
write_alike u pid p done (OnTty tty) = elim (cases_Bool (is_readable p.pages (argument p 1 + done) (tty_piece (argument p 2) done))) [
  | inl able ↦ rw able (written_alike u tty (bytes_at p.pages (argument p 1 + done) (tty_piece (argument p 2) done)) pid p (argument p 2) (done + tty_piece (argument p 2) done))
  | inr not_so ↦ rw not_so (answered_alike u pid p (if done == 0 then minus 14 else done))
]
write_alike u pid p done (OnFile file) = itself u

through_alike : (u : Unix) (pid : ℕ) (p : Process) (d : Option Description) → AreAlike u (write_through u pid p d)
through_alike u pid p None = answered_alike u pid p (minus 9)
through_alike u pid p (Some d) =
    if_alike u (answered u pid p (minus 9)) (if nat_lt 0x7fffffff (argument p 2) then answered u pid p (minus 22) else (if argument p 2 == 0 then answered u pid p 0 else write_on u pid p 0 d.object)) (not d.writes) (answered_alike u pid p (minus 9))
    (if_alike u (answered u pid p (minus 22)) (if argument p 2 == 0 then answered u pid p 0 else write_on u pid p 0 d.object) (nat_lt 0x7fffffff (argument p 2)) (answered_alike u pid p (minus 22))
    (if_alike u (answered u pid p 0) (write_on u pid p 0 d.object) (argument p 2 == 0) (answered_alike u pid p 0) (write_alike u pid p 0 d.object)))

yield_alike : (u : Unix) (pid : ℕ) (p : Process) → AreAlike u (yield_entry u pid p)
unfolding yield_entry
yield_alike u pid p = record { steps = refl; traps = refl; last = refl; tapes = as_they_are u }

sbrk_alike : (u : Unix) (pid : ℕ) (p : Process) → AreAlike u (sbrk_entry u pid p)
unfolding sbrk_entry
sbrk_alike u pid p =
    let new = heap_pages (p.brk + argument p 0) - heap_pages p.brk in
    let grown = answered u pid (record p { brk = p.brk + argument p 0; pages = with_zero_pages p.pages (heap_end p.pages) new }) (break_of p) in
    if_alike u (answered u pid p (minus 12)) grown (nat_lt 0x400000 (break_of p + argument p 0) || nat_lt u.room (pages_of_all u.processes + new))
    (answered_alike u pid p (minus 12))
    (answered_alike u pid (record p { brk = p.brk + argument p 0; pages = with_zero_pages p.pages (heap_end p.pages) new }) (break_of p))

child_alike : (u : Unix) (pid : ℕ) (p : Process) → AreAlike u (answered (with_child u pid p) pid p u.next_pid)
unfolding answered
child_alike u pid p = record { steps = refl; traps = refl; last = refl; tapes = as_they_are u }

fork_alike : (u : Unix) (pid : ℕ) (p : Process) → AreAlike u (fork_entry u pid p)
unfolding fork_entry
fork_alike u pid p =
    let made = answered (with_child u pid p) pid p u.next_pid in
    let roomy = nat_lt u.room (pages_of_all u.processes + pages_of_one (Some p)) in
    if_alike u (answered u pid p (minus 11)) (if roomy then answered u pid p (minus 12) else made)
    (nat_le 16 (slots_taken u) || nat_lt most_pids u.next_pid) (answered_alike u pid p (minus 11))
    (if_alike u (answered u pid p (minus 12)) made roomy (answered_alike u pid p (minus 12)) (child_alike u pid p))

waited_alike : (u : Unix) (pid : ℕ) (p : Process) (child : ℕ) (waited : Process) → AreAlike u (answered (without_child u child) pid waited child)
unfolding answered
waited_alike u pid p child waited = record { steps = refl; traps = refl; last = refl; tapes = as_they_are u }

stays_alike : (u : Unix) (pid : ℕ) (p : Process) (number done : ℕ) → AreAlike u (stays_in u pid p number done)
unfolding stays_in
stays_alike u pid p number done = record { steps = refl; traps = refl; last = refl; tapes = as_they_are u }

for_alike : (u : Unix) (pid : ℕ) (p : Process) (child : Option ℕ) → AreAlike u (wait_for u pid p child)
for_alike u pid p None =
    if_alike u (stays_in u pid p 10 0) (answered u pid p (minus 10)) (has_child u pid) (stays_alike u pid p 10 0) (answered_alike u pid p (minus 10))
for_alike u pid p (Some child) =
    let waited = waited_by p (status_of (u.ended child)) in
    if_alike u (answered u pid p (minus 14)) (answered (without_child u child) pid waited child) (refuses_status p)
    (answered_alike u pid p (minus 14)) (waited_alike u pid p child waited)

wait_alike : (u : Unix) (pid : ℕ) (p : Process) → AreAlike u (wait_entry u pid p)
unfolding wait_entry
wait_alike u pid p = for_alike u pid p (ended_child u pid)

called_alike : (u : Unix) (pid : ℕ) (p : Process) (number : ℕ) → AreAlike u (called u pid p number)
unfolding called exit_entry write_entry getpid_entry
called_alike u pid p number =
    let rest6 = if number == 18 then yield_entry u pid p else answered u pid p (minus 38) in
    let rest5 = if number == 10 then wait_entry u pid p else rest6 in
    let rest4 = if number == 9 then fork_entry u pid p else rest5 in
    let rest3 = if number == 8 then sbrk_entry u pid p else rest4 in
    let rest2 = if number == 7 then getpid_entry u pid p else rest3 in
    let rest1 = if number == 2 then write_entry u pid p else rest2 in
    if_alike u (exit_entry u pid p) rest1 (number == 1) (ended_alike u pid p (argument p 0 % 256))
    (if_alike u (write_entry u pid p) rest2 (number == 2) (through_alike u pid p (description_of u p (argument p 0)))
    (if_alike u (getpid_entry u pid p) rest3 (number == 7) (answered_alike u pid p pid)
    (if_alike u (sbrk_entry u pid p) rest4 (number == 8) (sbrk_alike u pid p)
    (if_alike u (fork_entry u pid p) rest5 (number == 9) (fork_alike u pid p)
    (if_alike u (wait_entry u pid p) rest6 (number == 10) (wait_alike u pid p)
    (if_alike u (yield_entry u pid p) (answered u pid p (minus 38)) (number == 18) (yield_alike u pid p) (answered_alike u pid p (minus 38))))))))

-- a state counts a trap more, which may have put bytes on the tapes
pub record Counts (t : Trap) (u w : Unix) : Type 0 where
  pub steps : w.steps ≡ u.steps + steps_in t
  pub traps : w.traps ≡ u.traps + 1
  pub last : w.last_pid ≡ last_after (pid_of t) u.last_pid
  pub tapes : HasTapesOf u w

-- by what a trap of a process counts at first
from_trapped : (t : Trap) (u w : Unix) (pid : ℕ) → pid_of t ≡ Some pid → u.steps + steps_in t ≡ u.steps + 1 → AreAlike (trapped u pid) w → Counts t u w
unfolding trapped
from_trapped t u w pid is step alike = record {
  steps = alike.steps ∙ sym step;
  traps = alike.traps;
  last = alike.last ∙ ap (λ (o : Option ℕ). last_after o u.last_pid) (sym is);
  tapes = alike.tapes;
}

of_entry : (u : Unix) (pid : ℕ) (p : Process) → u.processes pid ≡ Some p → Counts (trap.Entry pid) u (after_trap u (trap.Entry pid))
unfolding after_trap call_entered
of_entry u pid p live = rw live (from_trapped (trap.Entry pid) u (call_entered u pid p) pid refl refl (called_alike (trapped u pid) pid p (call_number p)))

of_fault : (u : Unix) (pid cause : ℕ) (p : Process) → u.processes pid ≡ Some p → Counts (trap.Fault pid cause) u (after_trap u (trap.Fault pid cause))
unfolding after_trap
of_fault u pid cause p live = rw live (from_trapped (trap.Fault pid cause) u (ended_as (trapped u pid) pid p (0x200 + cause)) pid refl refl (ended_alike (trapped u pid) pid p (0x200 + cause)))

of_slice : (u : Unix) (pid : ℕ) → Counts (trap.Slice pid) u (after_trap u (trap.Slice pid))
unfolding after_trap trapped
of_slice u pid = record { steps = refl; traps = refl; last = refl; tapes = as_they_are u }

of_idle : (u : Unix) → Counts trap.Idle u (after_trap u trap.Idle)
unfolding after_trap idled
of_idle u = record { steps = refl; traps = refl; last = refl; tapes = as_they_are u }

signalled_alike : (v : Unix) (pid : ℕ) (p : Process) (signal handler : ℕ) → AreAlike v (signalled_by v pid p signal handler)
unfolding signalled_by
signalled_alike v pid p signal handler = elim (cases_Bool (handler == 0)) [
  | inl none ↦ rw none (ended_alike v pid p (0x100 + signal))
  | inr some ↦ rw some (elim (cases_Bool (handler == 1)) [
    | inl drops ↦ rw drops (record { steps = refl; traps = refl; last = refl; tapes = as_they_are v })
    | inr runs ↦ rw runs (record { steps = refl; traps = refl; last = refl; tapes = as_they_are v })
  ])
]

of_signal : (u : Unix) (pid signal : ℕ) (p : Process) → u.processes pid ≡ Some p → Counts (trap.Signal pid signal) u (after_trap u (trap.Signal pid signal))
unfolding after_trap signalled
of_signal u pid signal p live = rw live (from_trapped (trap.Signal pid signal) u (signalled u pid p signal) pid refl refl (signalled_alike (trapped u pid) pid p signal (slice_index p.handlers (signal - 1))))

piece_alike : (u : Unix) (pid : ℕ) (p : Process) (number done : ℕ) (call : CallState) → call ≡ In number done → AreAlike (trapped u pid) (piece_by u pid p call)
unfolding continued
piece_alike u pid p number done Out is = absurd (cc is)
piece_alike u pid p number done (In n d) is =
    let v = trapped u pid in
    if_alike v (piece_on v pid p d (description_of v p (argument p 0))) (if n == 10 then wait_entry v pid p else v) (n == 2) (on (description_of v p (argument p 0)))
    (if_alike v (wait_entry v pid p) v (n == 10) (wait_alike v pid p) (itself v)) where
      on : (o : Option Description) → AreAlike (trapped u pid) (piece_on (trapped u pid) pid p d o)
      on (Some o) = write_alike (trapped u pid) pid p d o.object
      on None = itself (trapped u pid)

of_piece : (u : Unix) (pid number done : ℕ) (p : Process) → u.processes pid ≡ Some p → p.call ≡ In number done → Counts (trap.Piece pid) u (after_trap u (trap.Piece pid))
unfolding after_trap piece_of
of_piece u pid number done p live call = rw live (from_trapped (trap.Piece pid) u (piece_of u pid p) pid refl refl (piece_alike u pid p number done p.call call))

-- settling counts nothing, and puts nothing on tapes
abbrev AreCountedSame : (u w : Unix) → Type 0
AreCountedSame u w = (w.steps ≡ u.steps) × (w.traps ≡ u.traps) × (w.terminals ≡ u.terminals)

returned_alike : (u : Unix) (pid : ℕ) (signal : Option ℕ) (call : CallState) → AreCountedSame u (returned_as u pid signal call)
returned_alike u pid (Some signal) call = (refl, refl, refl)
returned_alike u pid None Out = (refl, refl, refl)
returned_alike u pid None (In number done) = (refl, refl, refl)

live_alike : (u : Unix) (pid : ℕ) (o : Option Process) → AreCountedSame u (settled_to u pid o)
live_alike u pid (Some p) = returned_alike u pid (deliverable p) p.call
live_alike u pid None = (refl, refl, refl)

on_alike : (u : Unix) (o : Option ℕ) → AreCountedSame u (settled_on u o)
on_alike u (Some pid) = live_alike u pid (u.processes pid)
on_alike u None = (refl, refl, refl)

at_alike : (keys : Keys) (u : Unix) (position : Position) → AreCountedSame u (settled_at keys u position)
at_alike keys u AtKernel = on_alike u (chosen keys u)
at_alike keys u (AtUser pid count) = (refl, refl, refl)
at_alike keys u (AtPanic caller) = (refl, refl, refl)

all_alike : (keys : Keys) (u : Unix) → AreCountedSame u (settled keys u)
unfolding settled
all_alike keys u = at_alike keys u u.position

pub settled_alike : (keys : Keys) (u : Unix) → ((settled keys u).steps ≡ u.steps) × ((settled keys u).traps ≡ u.traps)
settled_alike keys u = let same = all_alike keys u in (same.0, same.1)

before_alike : (keys : Keys) (u : Unix) (t : Trap) → ((begun_from keys u t).steps ≡ u.steps) × ((begun_from keys u t).traps ≡ u.traps)
before_alike keys u (trap.Entry pid) = settled_alike keys u
before_alike keys u (trap.Piece pid) = settled_alike keys u
before_alike keys u (trap.Fault pid cause) = settled_alike keys u
before_alike keys u (trap.Slice pid) = settled_alike keys u
before_alike keys u (trap.Signal pid signal) = settled_alike keys u
before_alike keys u trap.Idle = settled_alike keys u
before_alike keys u (trap.Closing pid) = (refl, refl)

-- what is left of a broken trap counts as the trap, from the state that it came from
left_counts : (t : Trap) (s v : Unix) → IsBrokenFrom t s v → (v.steps ≡ s.steps + steps_in t) × (v.traps ≡ s.traps + 1)
unfolding undone_of done_of partly_put status_put
left_counts t s v (IsUndone is) = rw is (refl, refl)
left_counts t s v (IsDone is) = rw is (refl, refl)
left_counts t s v (IsPartlyPut tty count within is) = rw is (refl, refl)
left_counts t s v (IsStatusPut pid p child stores is) = rw is (refl, refl)

pub broken_counts : (keys : Keys) (u : Unix) (t : Trap) (v : Unix) → IsBroken keys u t v → (v.steps ≡ u.steps + steps_in t) × (v.traps ≡ u.traps + 1)
broken_counts keys u t v broken =
    let left = left_counts t (begun_from keys u t) v broken in
    let same = before_alike keys u t in
    (left.0 ∙ ap (λ n. n + steps_in t) same.0, left.1 ∙ ap (λ n. n + 1) same.1)

-- a trap that a turn is
of_step : (u : Unix) (pid : ℕ) (p : Process) (s : Stepped Pages) (t : Trap) → u.processes pid ≡ Some p → trap_of_step pid s ≡ Some t → Counts t u (after_trap u t)
of_step u pid p (Next regs pc pages) t live is = absurd (cc is)
of_step u pid p Call t live is = let same : trap.Entry pid ≡ t = cc is in subst (λ (x : Trap). Counts x u (after_trap u x)) same (of_entry u pid p live)
of_step u pid p (Faulted fault) t live is = let same : trap.Fault pid fault.cause ≡ t = cc is in subst (λ (x : Trap). Counts x u (after_trap u x)) same (of_fault u pid fault.cause p live)

of_user : (quantum : ℕ) (u : Unix) (pid count : ℕ) (o : Option Process) (t : Trap) → u.processes pid ≡ o → trap_of_user quantum pid count o ≡ Some t → Counts t u (after_trap u t)
of_user quantum u pid count (Some p) t live is = elim (cases_Bool (nat_lt count quantum)) [
  | inl within ↦ of_step u pid p (step_of p) t live (rw within at is)
  | inr over ↦ let over_is : Some (trap.Slice pid) ≡ Some t = rw over at is in let same : trap.Slice pid ≡ t = cc over_is in subst (λ (x : Trap). Counts x u (after_trap u x)) same (of_slice u pid)
]
of_user quantum u pid count None t live is = absurd (cc is)

made_as : (u : Unix) (some t : Trap) → Some some ≡ Some t → Counts some u (after_trap u some) → Counts t u (after_trap u t)
made_as u some t is counts = let same : some ≡ t = cc is in subst (λ (x : Trap). Counts x u (after_trap u x)) same counts

module _ (keys : Keys) (quantum : ℕ) (u : Unix) (t : Trap) where
  of_returned : (pid : ℕ) (p : Process) (signal : Option ℕ) (call : CallState) → u.position ≡ AtKernel → chosen keys u ≡ Some pid → u.processes pid ≡ Some p
      → deliverable p ≡ signal → p.call ≡ call → (s : Unix) → s ≡ returned_as u pid signal call → trap_at keys quantum s s.position ≡ Some t → Counts t s (after_trap s t)
  unfolding trap_at
  of_returned pid p (Some signal) call at one live goes in_call s same is =
      let there : trap_at keys quantum u AtKernel ≡ Some t = subst (λ (x : Position). trap_at keys quantum u x ≡ Some t) at (subst (λ (x : Unix). trap_at keys quantum x x.position ≡ Some t) same is) in
      let signal_is : Some (trap.Signal pid signal) ≡ Some t = sym (ap (λ (o : Option ℕ). Some (signal_or_piece_of pid o)) goes) ∙ (sym (ap (trap_if_live pid) live) ∙ (sym (ap (trap_or_idle u) one) ∙ there)) in
      subst (λ (x : Unix). Counts t x (after_trap x t)) (sym same) (made_as u (trap.Signal pid signal) t signal_is (of_signal u pid signal p live))
  of_returned pid p None Out at one live goes out s same is =
      let v = record u { position = AtUser pid 0; last_pid = pid } in
      let there : trap_of_user quantum pid 0 (u.processes pid) ≡ Some t = subst (λ (x : Unix). trap_at keys quantum x x.position ≡ Some t) same is in
      subst (λ (x : Unix). Counts t x (after_trap x t)) (sym same) (of_user quantum v pid 0 (u.processes pid) t refl there)
  of_returned pid p None (In number done) at one live goes in_call s same is =
      let there : trap_at keys quantum u AtKernel ≡ Some t = subst (λ (x : Position). trap_at keys quantum u x ≡ Some t) at (subst (λ (x : Unix). trap_at keys quantum x x.position ≡ Some t) same is) in
      let piece_is : Some (trap.Piece pid) ≡ Some t = sym (ap (λ (o : Option ℕ). Some (signal_or_piece_of pid o)) goes) ∙ (sym (ap (trap_if_live pid) live) ∙ (sym (ap (trap_or_idle u) one) ∙ there)) in
      subst (λ (x : Unix). Counts t x (after_trap x t)) (sym same) (made_as u (trap.Piece pid) t piece_is (of_piece u pid number done p live in_call))

  of_live : (pid : ℕ) (o : Option Process) → u.position ≡ AtKernel → chosen keys u ≡ Some pid → u.processes pid ≡ o
      → (s : Unix) → s ≡ settled_to u pid o → trap_at keys quantum s s.position ≡ Some t → Counts t s (after_trap s t)
  unfolding trap_at
  of_live pid (Some p) at one live s same is = of_returned pid p (deliverable p) p.call at one live refl refl s same is
  of_live pid None at one live s same is =
      let there : trap_at keys quantum u AtKernel ≡ Some t = subst (λ (x : Position). trap_at keys quantum u x ≡ Some t) at (subst (λ (x : Unix). trap_at keys quantum x x.position ≡ Some t) same is) in
      let none : None ≡ Some t = sym (ap (trap_if_live pid) live) ∙ (sym (ap (trap_or_idle u) one) ∙ there) in
      absurd (cc none)

  of_choice : (o : Option ℕ) → u.position ≡ AtKernel → chosen keys u ≡ o
      → (s : Unix) → s ≡ settled_on u o → trap_at keys quantum s s.position ≡ Some t → Counts t s (after_trap s t)
  unfolding trap_at
  of_choice (Some pid) at one s same is = of_live pid (u.processes pid) at one refl s same is
  of_choice None at one s same is =
      let there : trap_at keys quantum u AtKernel ≡ Some t = subst (λ (x : Position). trap_at keys quantum u x ≡ Some t) at (subst (λ (x : Unix). trap_at keys quantum x x.position ≡ Some t) same is) in
      let idle_is : Some trap.Idle ≡ Some t = sym (ap (trap_or_idle u) one) ∙ there in
      subst (λ (x : Unix). Counts t x (after_trap x t)) (sym same) (made_as u trap.Idle t idle_is (of_idle u))

  of_position : (position : Position) → u.position ≡ position
      → (s : Unix) → s ≡ settled_at keys u position → trap_at keys quantum s s.position ≡ Some t → Counts t s (after_trap s t)
  unfolding trap_at
  of_position AtKernel at s same is = of_choice (chosen keys u) at refl s same is
  of_position (AtUser pid count) at s same is =
      let there : trap_of_user quantum pid count (u.processes pid) ≡ Some t = subst (λ (x : Position). trap_at keys quantum u x ≡ Some t) at (subst (λ (x : Unix). trap_at keys quantum x x.position ≡ Some t) same is) in
      subst (λ (x : Unix). Counts t x (after_trap x t)) (sym same) (of_user quantum u pid count (u.processes pid) t refl there)
  of_position (AtPanic caller) at s same is =
      let there : None ≡ Some t = subst (λ (x : Position). trap_at keys quantum u x ≡ Some t) at (subst (λ (x : Unix). trap_at keys quantum x x.position ≡ Some t) same is) in
      absurd (cc there)

pub turn_counts : (keys : Keys) (shape : Shape) (u : Unix) (t : Trap) → trap_of_turn keys shape u ≡ Some t → Counts t (settled keys u) (after_trap (settled keys u) t)
unfolding trap_of_turn settled
turn_counts keys shape u t is = of_position keys shape.quantum u t u.position refl (settled keys u) refl is

-- so a trap that was broken when it was done differs from the trap in the position alone
pub done_is : (keys : Keys) (shape : Shape) (u : Unix) (t : Trap) → trap_of_turn keys shape u ≡ Some t
    → done_of t (settled keys u) ≡ record (after_trap (settled keys u) t) { position = AtPanic 0 }
unfolding done_of
done_is keys shape u t is = let counts = turn_counts keys shape u t is in rw (counts.steps, counts.traps, counts.last) refl

-- a turn that is an instruction counts no trap
made_alike : (u : Unix) (pid count : ℕ) (p : Process) (s : Stepped Pages) → trap_of_step pid s ≡ None
    → ((stepped u pid count p s).traps ≡ u.traps) × ((stepped u pid count p s).terminals ≡ u.terminals)
unfolding stepped
made_alike u pid count p (Next regs pc pages) none = (refl, refl)
made_alike u pid count p Call none = absurd (cc none)
made_alike u pid count p (Faulted fault) none = absurd (cc none)

by_process : (quantum : ℕ) (u : Unix) (pid count : ℕ) (o : Option Process) → trap_of_user quantum pid count o ≡ None
    → ((instructed_by u pid count o).traps ≡ u.traps) × ((instructed_by u pid count o).terminals ≡ u.terminals)
by_process quantum u pid count (Some p) none = elim (cases_Bool (nat_lt count quantum)) [
  | inl within ↦ made_alike u pid count p (step_of p) (rw within at none)
  | inr over ↦ let some : Some (trap.Slice pid) ≡ None = rw over at none in absurd (cc some)
]
by_process quantum u pid count None none = (refl, refl)

by_position : (keys : Keys) (quantum : ℕ) (u : Unix) (position : Position) → trap_at keys quantum u position ≡ None
    → ((instructed u position).traps ≡ u.traps) × ((instructed u position).terminals ≡ u.terminals)
unfolding trap_at instructed
by_position keys quantum u AtKernel none = (refl, refl)
by_position keys quantum u (AtUser pid count) none = by_process quantum u pid count (u.processes pid) none
by_position keys quantum u (AtPanic caller) none = (refl, refl)

-- after a turn so many traps more are counted, and the tapes of before are fronts of those that there are
abbrev pub traps_in : Option Trap → ℕ
traps_in (Some t) = 1
traps_in None = 0

pub record IsTurnedOn (count : ℕ) (u w : Unix) : Type 0 where
  pub traps : w.traps ≡ u.traps + count
  pub tapes : HasTapesOf u w

by_trap : (shape : Shape) (u : Unix) (o : Option Trap) → trap_of_turn no_keys shape u ≡ o → IsTurnedOn (traps_in o) u (turned_by (settled no_keys u) o)
unfolding trap_of_turn
by_trap shape u (Some t) is =
    let counts = turn_counts no_keys shape u t is in
    let same = all_alike no_keys u in
    record {
      traps = counts.traps ∙ ap (λ (n : ℕ). n + 1) same.1;
      tapes = λ tty. (
        (counts.tapes tty).0,
        (counts.tapes tty).1 ∙ ap (λ (terminals : ℕ → Terminal). (terminals tty).tape ++ (counts.tapes tty).0) same.2,
      );
    }
by_trap shape u None none =
    let s = settled no_keys u in
    let same = all_alike no_keys u in
    let made = by_position no_keys shape.quantum s s.position none in
    record {
      traps = made.0 ∙ same.1 ∙ omega arith;
      tapes = same_tapes u (instructed s s.position) (made.1 ∙ same.2);
    }

pub turned_on : (shape : Shape) (u : Unix) → IsTurnedOn (traps_in (trap_of_turn no_keys shape u)) u (turn shape u)
turned_on shape u = subst (IsTurnedOn (traps_in (trap_of_turn no_keys shape u)) u) (sym (turn_is shape u)) (by_trap shape u (trap_of_turn no_keys shape u) refl)

pub closed_on : (u : Unix) → HasTapesOf u (closed u)
unfolding closed
closed_on u = same_tapes u (closed u) refl
