-- The half of a plant in which a kernel takes over from one that panicked.
use Rattle.ow_base.specs.Sv32.{WordMap}
use Rattle.ow_base.specs.declared.machine.AreaId.{AreaId}
use Rattle.ow_base.specs.declared.machine.AreaId.TheVariants.{A, B}
use Rattle.phys_memory.specs.Halves.{first_own, own_half, words_from}
use Rattle.record_layouts.specs.declared.memory_map.MemoryMap.{MemoryMap}
use Rattle.record_layouts.specs.Halves.{half_map}
use Rattle.ow_plant.specs.Dead.{DeadState}
use Rattle.ow_plant.specs.State.{PlantState}

-- the area that is not this one
abbrev pub other_area : AreaId → AreaId
other_area A = B
other_area B = A

-- where the frames of the kernel are that takes over: in the half that is not the dead one's
abbrev pub own_map : DeadState → MemoryMap
own_map dead = half_map (other_area dead.area) dead.user_frames dead.sectors

-- the words of the half of a plant that is not live
abbrev pub own_words_in : PlantState → WordMap
own_words_in s = words_from (first_own s.memory s.live) (own_half s.memory s.live)
