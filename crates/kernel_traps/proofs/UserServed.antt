-- A turn in user mode: the trap that is next by what the process came to.
use Rattle.std.proofs.Common.{◌≡◌, ◌∙◌, ◌+◌, ℕ, true, Some, refl, sym, ap, subst}
use Rattle.record_layouts.specs.Unix.Choice.{no_keys}
use Rattle.record_layouts.specs.Unix.Traps.{trap_at}
use Rattle.record_layouts.specs.Unix.Turn.{turn, turn_at}
use Rattle.record_layouts.specs.Unix.State.{Process}
use Rattle.record_layouts.specs.declared.proc.ProcRec.{ProcRec}
use Rattle.record_layouts.specs.declared.traps.Trap.TheVariants as trap
use Rattle.ow_plant.specs.State.{PlantState}
use Rattle.ow_plant.specs.declared.UserEnd.{UserEnd}
use Rattle.ow_plant.specs.declared.UserEnd.TheVariants as end
use Rattle.kernel_traps.specs.Plants.{IsRunning, unix_at}
use Rattle.kernel_traps.specs.Due.{IsNextInUser, IsNextTurn, IsSettled}
use Rattle.kernel_traps.specs.Traps.{IsDue}
use Rattle.kernel_traps.specs.User.{IsTurnOf, IsUserTurn}
use Rattle.kernel_traps.specs.declared.turns.Next.{Next}
use Rattle.kernel_traps.specs.declared.turns.Next.TheVariants as next
use Rattle.kernel_traps.proofs.TurnUnix.{at_user, same_then, settled_trap, settled_turn}

-- what the turn of the process in user mode comes to
abbrev pub next_by : (pid : ℕ) → UserEnd → Next
next_by pid end.Next = next.Step
next_by pid end.Slice = next.Trap (trap.Slice pid)
next_by pid end.Call = next.Trap (trap.Entry pid)
next_by pid (end.Fault fault) = next.Trap (trap.Fault pid fault.cause)

next_of : (s new : PlantState) (process : Process) (slot : ℕ) (its : ProcRec) (result : UserEnd) → s.in_user ≡ true → (unix_at s).processes s.user_pid ≡ Some process → IsRunning s slot its
    → IsTurnOf s process new result → IsNextInUser s new (next_by s.user_pid result)
unfolding trap_at
next_of s new process slot its end.Next in_user live runs is = is
next_of s new process slot its end.Slice in_user live runs (same, over) =
    (same, rw (live, over) refl, refl, record { mode = (in_user, refl); slot = slot; had = (its, record { seat = (runs.there, runs.pid); suits = runs.outside }) })
next_of s new process slot its end.Call in_user live runs (same, within, calls) =
    (same, rw (live, within, calls) refl, refl, record { mode = (in_user, refl); slot = slot; had = (its, record { seat = (runs.there, runs.pid); suits = runs.outside }) })
next_of s new process slot its (end.Fault fault) in_user live runs (same, within, faults, word) =
    (same, rw (live, within, faults) refl, refl, record { mode = (in_user, refl); slot = slot; had = (its, record { seat = (runs.there, runs.pid); suits = (runs.outside, word) }) })

pub next_in : (s new : PlantState) (pid : ℕ) (result : UserEnd) → s.in_user ≡ true → pid ≡ s.user_pid → IsUserTurn s new result → IsNextInUser s new (next_by pid result)
next_in s new pid result in_user same (process, is, turn) =
    subst (λ (pid : ℕ). IsNextInUser s new (next_by pid result)) (sym same) (next_of s new process is.slot is.its result in_user is.live is.runs turn)

-- a settled plant whose process makes its turn
pub next_then : (s at new : PlantState) (which : Next) → IsSettled s at → at.in_user ≡ true → IsNextInUser at new which → IsNextTurn s new which
next_then s at new next.Step is in_user made = (
  is.live,
  record {
    sound = made.sound;
    turn = made.turn ∙ sym (settled_turn s at is ∙ ap (turn_at no_keys at.shape.quantum (unix_at at)) (at_user at in_user));
    steps = made.steps ∙ ap (λ (n : ℕ). n + 1) is.steps;
    same = same_then s at new is.same made.same;
  },
  made.traps ∙ is.traps,
)
next_then s at new (next.Trap t) is in_user (same, comes, step, due) = record {
  settled = subst (IsSettled s) (sym same) is;
  trap = settled_trap s at is ∙ (ap (trap_at no_keys at.shape.quantum (unix_at at)) (at_user at in_user) ∙ comes);
  step = step;
  due = subst (λ (n : PlantState). IsDue n t) (sym same) due;
}
next_then s at new next.AllEnded is in_user none = absurd none
