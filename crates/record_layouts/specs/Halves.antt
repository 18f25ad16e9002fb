-- Where the frames of a kernel are: the boot frame is followed by two halves, and each of them has 64 frames of area, 64 of
-- cache and then the user frames.
use Rattle.std.specs.Prelude.{ℕ, ◌+◌}
use Rattle.ow_base.specs.declared.machine.AreaId.{AreaId}
use Rattle.ow_base.specs.declared.machine.AreaId.TheVariants.{A, B}
use Rattle.record_layouts.specs.declared.memory_map.MemoryMap.{MemoryMap}

-- the first frame of an area: half A follows the boot frame, and half B follows it
abbrev pub base_of : AreaId → (user_frames : ℕ) → ℕ
base_of A user_frames = 1
base_of B user_frames = 129 + user_frames

-- where the frames of the kernel are that has an area
abbrev pub half_map : AreaId → (user_frames sectors : ℕ) → MemoryMap
half_map area user_frames sectors = record {
  area_base = base_of area user_frames;
  cache_base = base_of area user_frames + 64;
  pool_base = base_of area user_frames + 128;
  user_frames = user_frames;
  sectors = sectors;
}
