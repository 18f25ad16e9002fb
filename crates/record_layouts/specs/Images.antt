-- What the image of a kernel's memory stands for: where its frames are, the records that its area has, what its intent
-- block says, and Decode.
use Rattle.std.specs.Prelude.{◌≡◌, ℕ, ◌≤◌}
use Rattle.ow_base.specs.Images.{Image}
use Rattle.record_layouts.specs.declared.memory_map.MemoryMap.{MemoryMap}
use Rattle.record_layouts.specs.declared.intent.Gate.{Gate}
use Rattle.record_layouts.specs.Decode.{Context, unix_of}
use Rattle.record_layouts.specs.Halves.{half_map}
use Rattle.record_layouts.specs.Overlay.{area_at, gate_of}
use Rattle.record_layouts.specs.Reading.{records_of}
use Rattle.record_layouts.specs.Records.{Records}
use Rattle.record_layouts.specs.Unix.State.{Unix}

-- where the frames of the kernel are
abbrev pub map_of_image : Image → MemoryMap
map_of_image i = half_map i.area i.user_frames i.sectors

-- its records, with a valid open intent laid over the area
abbrev pub records_of_image : Image → Records
records_of_image i = records_of (map_of_image i) i.words

-- whether an intent is open in its area, and is one
abbrev pub gate_of_image : Image → Gate
gate_of_image i = gate_of (area_at i.words (map_of_image i).area_base)

-- Decode, with the steps and traps that are counted beside the image
abbrev pub unix_of_image : Image → Context → (steps traps : ℕ) → Unix
unix_of_image i context steps traps = unix_of (records_of_image i) i.words i.tapes context steps traps

-- the same is known of two memories but for their first frame, which is of no kernel
pub record AreAlike (one other : Image) : Type 0 where
  pub words : (frame word : ℕ) → 1 ≤ frame → one.words frame word ≡ other.words frame word
  pub area : one.area ≡ other.area
  pub user_frames : one.user_frames ≡ other.user_frames
  pub sectors : one.sectors ≡ other.sectors
  pub tapes : one.tapes ≡ other.tapes
