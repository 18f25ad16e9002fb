-- The image of a kernel that was built after a panic which damaged nothing is sound.
use Rattle.std.proofs.Common.{◌≡◌, ℕ, ◌+◌, ◌≤◌, List, Some, refl}
use Rattle.ow_base.specs.Images.{Image}
use Rattle.ow_base.specs.Sv32.{WordMap}
use Rattle.ow_base.specs.declared.machine.AreaId.{AreaId}
use Rattle.kernel_builder.specs.Reading.{IsReadAs}
use Rattle.kernel_builder.specs.Sets.{IsBuilt}
use Rattle.kernel_builder.proofs.Reading.{read_as_planned}
use Rattle.record_layouts.specs.declared.memory_map.MemoryMap.{MemoryMap}
use Rattle.record_layouts.specs.Halves.{half_map}
use Rattle.record_layouts.specs.Held.{Records}
use Rattle.record_layouts.specs.Images.{records_of_image}
use Rattle.record_layouts.specs.Left.{HandedOver}
use Rattle.record_layouts.specs.Reading.{records_in, records_of}
use Rattle.record_layouts.specs.Sound.{AreSound}
use Rattle.record_layouts.specs.SoundImages.{IsSoundAtPanic, IsSoundImage}
use Rattle.record_layouts.specs.Values.{are_values}
use Rattle.resurrector.specs.Rebuilt.{IsRevived}
use Rattle.resurrector.specs.Revived.{revived_plan}
use Rattle.resurrector.specs.RevivedImages.{image_revived}
use Rattle.resurrector.proofs.Built.{read_as_revived}
use Rattle.resurrector.proofs.SoundDescriptors.{all_in_calls, all_in_built_calls, all_on_terminals}
use Rattle.resurrector.proofs.SoundPids.{all_complete, all_numbered, trap_served}
use Rattle.resurrector.proofs.SoundScreens.{all_of_tapes}
use Rattle.resurrector.proofs.SoundTables.{all_mapped}

same_frames : (map : MemoryMap) (words : WordMap) → (records_of map words).map.user_frames ≡ map.user_frames
unfolding records_of records_in
same_frames map words = refl

module _ (i : Image) (most broken : ℕ) (sound : IsSoundAtPanic i most broken) (h : HandedOver) (counts : List ℕ) (area : AreaId)
    (old new : WordMap) (few : i.user_frames ≤ 384)
    (built : IsBuilt (half_map area i.user_frames i.sectors) (revived_plan (records_of_image i) (Some h) counts i.words) old new) where
  abbrev map : MemoryMap
  map = half_map area i.user_frames i.sectors

  abbrev next : Records
  next = records_of map new

  is : IsRevived (records_of_image i) (Some h) counts i.words next new
  is = read_as_revived (records_of_image i) (Some h) counts i.words map old new few (rw (same_frames (half_map i.area i.user_frames i.sectors) i.words) refl) built

  read : IsReadAs map (revived_plan (records_of_image i) (Some h) counts i.words) new
  read = read_as_planned map (revived_plan (records_of_image i) (Some h) counts i.words) old new few built

  records_sound : AreSound next
  records_sound = record {
    complete = all_complete i most broken sound h counts next new is;
    values = are_values map new;
    numbered = all_numbered i most broken sound h counts next new is;
    in_calls = all_in_calls i most broken sound h counts next new is;
    mapped = all_mapped i most broken sound h counts next new is;
  }

  pub image_sound : IsSoundImage (image_revived i area new) most (h.trap + 1)
  image_sound = record {
    shut = read.gate;
    records = records_sound;
    on_terminals = all_on_terminals i most broken sound h counts next new is;
    in_built_calls = all_in_built_calls i most broken sound h counts next new is;
    served = trap_served i most broken sound h counts next new is;
    terminals = all_of_tapes i most broken sound h counts next new is;
  }
