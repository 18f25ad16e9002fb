-- Images of memory: what is known of a kernel that runs, has stopped or is dead.
use Rattle.std.specs.Prelude.{ℕ, ◌+◌, ◌*◌, ◌/◌, nat_lt, ◌&&◌, if◌then◌else◌, List, length, slice_index, Some, None}
use Rattle.ow_base.specs.Sv32.{WordMap}
use Rattle.ow_base.specs.declared.machine.AreaId.{AreaId}

-- the words of memory by frame and place, the area of the kernel, the frames for pages in its half and the data sectors of
-- its disk, and the bytes that are written on each terminal
pub record Image : Type 0 where
  pub words : WordMap
  pub area : AreaId
  pub user_frames : ℕ
  pub sectors : ℕ
  pub tapes : (tty : ℕ) → List ℕ

-- the words of frames of 1,024 that lie one behind the other; there is no word where there is no such frame
unfoldable pub words_in : (image : List ℕ) → WordMap
words_in image frame word = if nat_lt word 1024 && nat_lt frame (length image / 1024) then Some (slice_index image (1024 * frame + word)) else None
