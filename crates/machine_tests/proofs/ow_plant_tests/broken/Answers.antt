use Rattle.std.proofs.Common.{arith, sym, subst}
use Rattle.ow_plant.specs.State.{IsArmed}
use Rattle.ow_plant.proofs.Armed.{IsArmed-entered, IsArmed-put, IsArmed-ready, IsArmed-returned_to}
use Rattle.machine_tests.proofs.Stores.{armed_after}
use Rattle.machine_tests.proofs.ow_plant_tests.broken.Goals as goal

pub returns-clause-armed : goal.returns-clause-armed
returns-clause-armed c =
    let ready = IsArmed-ready _ _ (omega arith) c.in_ok-arm.ensures.ok in
    let runs : IsArmed c.to_user.new.self = subst IsArmed (sym c.to_user.ensures) (IsArmed-returned_to _ _ _ 17 ready) in
    let entered : IsArmed c.enter.new.self = subst IsArmed (sym c.enter.ensures) (IsArmed-entered _ _ _ runs) in
    let stored : IsArmed c.set-2.new.plant = c.set-2.ensures.sized (c.set.ensures.sized entered) in
    armed_after c.put.result _ _ _ stored (IsArmed-put _ 1 120 stored) c.put.ensures.ok c.put.ensures.err
