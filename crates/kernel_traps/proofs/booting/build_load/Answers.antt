use Rattle.std.proofs.Common.{ap, subst, sym}
use Rattle.phys_memory.specs.Memory.{words_of}
use Rattle.ow_plant.specs.State.{PlantState}
use Rattle.intent_store.specs.Live.{may_refuse, rest_of}
use Rattle.kernel_traps.specs.BootLayout.{boot_map}
use Rattle.kernel_builder.specs.Plan.{HasFrames}
use Rattle.kernel_traps.proofs.BootReady.{booting_frames}
use Rattle.kernel_traps.proofs.BootStores.{may_refuse_none}
use Rattle.kernel_traps.proofs.booting.build_load.Goals as goal

pub build_kernel-requires-clause-map : goal.build_kernel-requires-clause-map
build_kernel-requires-clause-map c =
    rw c.of_area-map.ensures.map (subst (λ (s : PlantState). HasFrames (words_of s.memory) (boot_map c.args.load.now)) (sym c.new-live.ensures.plant)
    (booting_frames c.args.load.now c.args.plant.now c.requires.booting c.requires.shape c.requires.load.most_frames))

pub unreachable-requires : goal.unreachable-requires
unreachable-requires c =
    cc (c.in-Err.ensures.allowed, ap (λ (s : PlantState). may_refuse (rest_of s)) c.new-live.ensures.plant, may_refuse_none c.args.plant.now c.requires.booting)
