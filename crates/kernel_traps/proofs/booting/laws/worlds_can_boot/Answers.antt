use Rattle.kernel_traps.proofs.BootWorlds.{none_at_boot, world_boots}
use Rattle.kernel_traps.proofs.booting.laws.worlds_can_boot.Goals as goal

pub returns-clause-load : goal.returns-clause-load
returns-clause-load c = world_boots

pub returns-clause-points : goal.returns-clause-points
returns-clause-points c = none_at_boot
