-- What a panic leaves of a trap that it broke, and of a turn.
use Rattle.std.proofs.Common.{◌≡◌, ◌∙◌, ◌+◌, ◌++◌, ℕ, List, inl, inr, refl, sym, ap, subst, arith}
use Rattle.record_layouts.specs.declared.traps.Trap.{Trap}
use Rattle.record_layouts.specs.declared.traps.Trap.TheVariants as trap
use Rattle.record_layouts.specs.Unix.Broken.{begun_from}
use Rattle.record_layouts.specs.Unix.Choice.{no_keys, settled}
use Rattle.record_layouts.specs.Unix.State.{Unix}
use Rattle.record_layouts.specs.Unix.Traps.{steps_in}
use Rattle.ow_plant.specs.Images.{tapes_of}
use Rattle.ow_plant.specs.State.{PlantState}
use Rattle.kernel_traps.specs.Broken.{IsLeftFrom, IsLeftOfTrap, IsLeftOfTurn}
use Rattle.kernel_traps.specs.Due.{IsSettled, IsTrapNext}
use Rattle.kernel_traps.specs.Plants.{unix_at}
use Rattle.kernel_traps.specs.Refused.{IsRefusedIn}
use Rattle.kernel_traps.specs.Traps.{IsDue}
use Rattle.kernel_traps.proofs.Entering.{MayTrap}
use Rattle.kernel_traps.proofs.LeftSound.{sound_left_of}
use Rattle.kernel_traps.proofs.LeftUnix.{unix_left_of}
use Rattle.kernel_traps.proofs.TurnUnix.{same_then}

-- a store of a trap, or its end, was refused
pub left_from : (s new : PlantState) (t : Trap) → MayTrap s t → IsDue s t → IsRefusedIn s t new → IsLeftFrom (unix_at s) s t new
left_from s new t may due refused =
    let unix = unix_left_of s new t may due refused in
    let left = sound_left_of s new t may.sound due may.within may.most may.few refused in
    record {
      broken = unix.broken;
      unstored = unix.unstored;
      over = unix.over;
      sound = left.sound;
      refused = left.refused;
      armed = left.armed;
      pid = left.pid;
      few_pids = left.few_pids;
      steps = left.steps;
      traps = left.traps;
      budget = left.budget;
      tapes = left.tapes;
      same = left.same;
    }

-- a trap that is a step begins from the settled state
begun_settled : (u : Unix) (t : Trap) → steps_in t ≡ 1 → begun_from no_keys u t ≡ settled no_keys u
begun_settled u (trap.Entry pid) step = refl
begun_settled u (trap.Piece pid) step = refl
begun_settled u (trap.Fault pid cause) step = refl
begun_settled u (trap.Slice pid) step = refl
begun_settled u (trap.Signal pid signal) step = refl
begun_settled u trap.Idle step = refl
begun_settled u (trap.Closing pid) step = absurd (omega (arith, step))

-- a plant that is settled has the tapes of before
settled_tapes : (s at : PlantState) (tty : ℕ) → IsSettled s at → tapes_of at tty ≡ tapes_of s tty
settled_tapes s at tty is = elim is.how [
  | inl same ↦ ap (λ (p : PlantState). tapes_of p tty) same
  | inr returned ↦ ap (λ (p : PlantState). tapes_of p tty) returned.1.1.loaded
]

-- what is left of the trap that is next is left of the plant before it was settled
left_settled : (s at new : PlantState) (t : Trap) → IsTrapNext s at t → IsLeftFrom (unix_at at) at t new → IsLeftOfTrap s t new
left_settled s at new t is left =
    let begins : unix_at at ≡ begun_from no_keys (unix_at s) t = is.settled.unix ∙ sym (begun_settled (unix_at s) t is.step) in
    let from : IsLeftFrom (begun_from no_keys (unix_at s) t) at t new = subst (λ (u : Unix). IsLeftFrom u at t new) begins left in
    record {
      broken = from.broken;
      unstored = from.unstored;
      over = from.over;
      sound = from.sound;
      refused = from.refused;
      armed = from.armed;
      pid = from.pid;
      few_pids = from.few_pids;
      steps = from.steps ∙ ap (λ (n : ℕ). n + steps_in t) is.settled.steps;
      traps = from.traps ∙ ap (λ (n : ℕ). n + 1) is.settled.traps;
      budget = from.budget;
      tapes = λ tty.
          let grown = from.tapes tty in
          (grown.0, grown.1 ∙ ap (λ (tape : List ℕ). tape ++ grown.0) (settled_tapes s at tty is.settled));
      same = same_then s at new is.settled.same from.same;
    }

pub turn_left : (s at new : PlantState) (t : Trap) → IsTrapNext s at t → IsLeftFrom (unix_at at) at t new → IsLeftOfTurn s new
turn_left s at new t is left = (is.settled.live, t, is.trap, left_settled s at new t is left)
