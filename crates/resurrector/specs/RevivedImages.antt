-- The image of a kernel that was built after a panic.
use Rattle.ow_base.specs.Images.{Image}
use Rattle.ow_base.specs.Sv32.{WordMap}
use Rattle.ow_base.specs.declared.machine.AreaId.{AreaId}
use Rattle.record_layouts.specs.Images.{records_of_image}
use Rattle.resurrector.specs.Rebuilt.{tapes_put}

-- what a panic left, with other words and another area, and with the byte in flight of each terminal put
abbrev pub image_revived : Image → AreaId → WordMap → Image
image_revived i area words = record {
  words = words;
  area = area;
  user_frames = i.user_frames;
  sectors = i.sectors;
  tapes = tapes_put (records_of_image i) i.tapes;
}
