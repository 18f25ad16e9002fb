-- A trap begins on a sound plant.
use Rattle.std.proofs.Common.{◌≡◌, ◌+◌, ◌-◌, ◌^◌, ◌<◌, ◌≤◌, refl, arith}
use Rattle.record_layouts.specs.Unix.Traps.{came_of, or_zero, pid_of, steps_in}
use Rattle.record_layouts.specs.declared.traps.Trap.{Trap}
use Rattle.record_layouts.specs.declared.traps.Trap.TheVariants as trap
use Rattle.ow_plant.specs.State.{PlantState}
use Rattle.ow_plant.proofs.Armed.{IsArmed-entered}
use Rattle.kernel_traps.specs.Plants.{IsInTrap, IsSound}
use Rattle.kernel_traps.specs.Traps.{IsWithin, begun_by}

-- a trap may begin: the plant is sound, a step is left where the trap is one, and steps and traps can be counted
pub record MayTrap (s : PlantState) (t : Trap) : Type 0 where
  pub sound : IsSound s
  pub within : IsWithin s t
  pub most : s.shape.budget ≤ 2000000
  pub few : s.traps < 2 ^ 32 - 2

pub steps_begun : (s : PlantState) (t : Trap) → MayTrap s t → (begun_by s t).steps ≡ s.steps + steps_in t
steps_begun s (trap.Entry pid) may = omega (arith, may.within, may.most)
steps_begun s (trap.Piece pid) may = omega (arith, may.within, may.most)
steps_begun s (trap.Fault pid cause) may = omega (arith, may.within, may.most)
steps_begun s (trap.Slice pid) may = omega (arith, may.within, may.most)
steps_begun s (trap.Signal pid signal) may = omega (arith, may.within, may.most)
steps_begun s trap.Idle may = omega (arith, may.within, may.most)
steps_begun s (trap.Closing pid) may = omega arith

pub traps_begun : (s : PlantState) (t : Trap) → MayTrap s t → (begun_by s t).traps ≡ s.traps + 1
traps_begun s t may = omega (arith, may.few)

pub begins : (s : PlantState) (t : Trap) → MayTrap s t → IsInTrap (begun_by s t) s.steps
begins s t may =
    let steps = steps_begun s t may in
    record {
      held = record {
        armed = IsArmed-entered s (came_of t) (or_zero (pid_of t)) may.sound.held.armed;
        able = may.sound.held.able;
        shut = may.sound.held.shut;
        records = may.sound.held.records;
        on_terminals = may.sound.held.on_terminals;
        in_built_calls = may.sound.held.in_built_calls;
      };
      a_trap_runs = refl;
      in_kernel = refl;
      served = rw may.sound.no_trap_runs at may.sound.served;
      counted = omega (arith, steps);
      terminals = record { records = may.sound.terminals.records; bytes = may.sound.terminals.bytes };
      budget = omega (arith, steps, may.within);
      fits = omega (arith, may.few);
    }
