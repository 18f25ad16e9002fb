-- A turn is its trap.
use Rattle.std.proofs.Common.{◌≡◌, ◌∙◌, ℕ, nat_lt, Option, Some, None, inl, inr, refl}
use Rattle.std.proofs.lemmas.Bool.{cases_Bool}
use Rattle.ow_base.specs.UserStep.{Stepped, Next, Call, Faulted}
use Rattle.ow_base.specs.Pages.{Pages}
use Rattle.ow_base.specs.declared.machine.Shape.{Shape}
use Rattle.ow_base.specs.declared.worlds.Ending.{Ending}
use Rattle.record_layouts.specs.Unix.State.{Unix, Process, Position, AtKernel, AtUser, AtPanic}
use Rattle.record_layouts.specs.Unix.Choice.{Keys, no_keys, chosen, deliverable, settled}
use Rattle.record_layouts.specs.Unix.Turn.{step_of, stepped, user_turn, signal_or_piece, served_if_live, served_or_idle, turn_at, turn, closed, ending_of}
use Rattle.record_layouts.specs.Unix.Traps.{after_trap, closing_of, instructed, next_trap, signal_or_piece_of, trap_at, trap_if_live, trap_of_step, trap_of_turn, trap_of_user, trap_or_idle, turned_by}
use Rattle.record_layouts.specs.declared.traps.Trap.{Trap}

-- the same, at a position that is told
abbrev turned_at : Unix → Position → Option Trap → Unix
turned_at u position (Some t) = after_trap u t
turned_at u position None = instructed u position

by_step : (u : Unix) (pid count : ℕ) (p : Process) (s : Stepped Pages) → u.processes pid ≡ Some p → step_of p ≡ s
    → stepped u pid count p s ≡ turned_at u (AtUser pid count) (trap_of_step pid s)
unfolding after_trap instructed stepped
by_step u pid count p (Next regs pc pages) live is = rw (live, is) refl
by_step u pid count p Call live is = rw live refl
by_step u pid count p (Faulted fault) live is = rw live refl

by_user : (quantum : ℕ) (u : Unix) (pid count : ℕ) (o : Option Process) → u.processes pid ≡ o
    → user_turn quantum u pid count o ≡ turned_at u (AtUser pid count) (trap_of_user quantum pid count o)
unfolding user_turn after_trap instructed
by_user quantum u pid count (Some p) live = elim (cases_Bool (nat_lt count quantum)) [
  | inl within ↦ rw within (by_step u pid count p (step_of p) live refl)
  | inr over ↦ rw over refl
]
by_user quantum u pid count None live = rw live refl

by_signal : (u : Unix) (pid : ℕ) (p : Process) (signal : Option ℕ) → u.processes pid ≡ Some p
    → signal_or_piece u pid p signal ≡ after_trap u (signal_or_piece_of pid signal)
unfolding after_trap
by_signal u pid p (Some signal) live = rw live refl
by_signal u pid p None live = rw live refl

by_live : (u : Unix) (pid : ℕ) (o : Option Process) → u.processes pid ≡ o
    → served_if_live u pid o ≡ turned_at u AtKernel (trap_if_live pid o)
unfolding instructed
by_live u pid (Some p) live = by_signal u pid p (deliverable p) live
by_live u pid None live = refl

by_choice : (u : Unix) (one : Option ℕ) → served_or_idle u one ≡ turned_at u AtKernel (trap_or_idle u one)
unfolding after_trap
by_choice u (Some pid) = by_live u pid (u.processes pid) refl
by_choice u None = refl

by_position : (keys : Keys) (quantum : ℕ) (u : Unix) (position : Position) → turn_at keys quantum u position ≡ turned_at u position (trap_at keys quantum u position)
unfolding turn_at trap_at instructed
by_position keys quantum u AtKernel = by_choice u (chosen keys u)
by_position keys quantum u (AtUser pid count) = by_user quantum u pid count (u.processes pid) refl
by_position keys quantum u (AtPanic caller) = refl

by_trap : (u : Unix) (t : Option Trap) → turned_at u u.position t ≡ turned_by u t
by_trap u (Some t) = refl
by_trap u None = refl

pub turn_is : (shape : Shape) (u : Unix) → turn shape u ≡ turned_by (settled no_keys u) (trap_of_turn no_keys shape u)
unfolding turn trap_of_turn
turn_is shape u =
    let v = settled no_keys u in
    by_position no_keys shape.quantum v v.position ∙ by_trap v (trap_at no_keys shape.quantum v v.position)

pub next_is : (shape : Shape) (u : Unix) → ending_of shape u ≡ None → next_trap no_keys shape u ≡ trap_of_turn no_keys shape u
unfolding next_trap
next_is shape u goes = rw goes refl

pub closing_is : (shape : Shape) (u : Unix) (ending : Ending) → ending_of shape u ≡ Some ending → next_trap no_keys shape u ≡ Some (closing_of u)
unfolding next_trap
closing_is shape u ending ends = rw ends refl

pub closed_is : (u : Unix) → after_trap u (closing_of u) ≡ closed u
unfolding after_trap
closed_is u = refl
