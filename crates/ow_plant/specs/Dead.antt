-- What a kernel that does not run any more has left, for one that reads it.
use Rattle.std.specs.Prelude.{ℕ, ◌-◌, ◌/◌, ◌^◌, min, if◌then◌else◌, length, take, slice_index, Option, None, is_some}
use Rattle.ow_base.specs.Sv32.{WordMap}
use Rattle.ow_base.specs.declared.machine.AreaId.{AreaId}
use Rattle.ow_base.specs.declared.worlds.PanicRecord.{PanicRecord}
use Rattle.panic_handover.specs.HandOver.{hand_over_in}
use Rattle.panic_handover.specs.declared.hand_over.HandOver.{HandOver}
use Rattle.phys_memory.specs.Memory.{words_of}
use Rattle.ow_plant.specs.State.{PlantState, tty_of}

-- what is left beside the words of memory
pub record DeadState : Type 0 where
  -- the area of the kernel
  pub area : AreaId
  -- the frames for pages in its half, and the data sectors of the disk
  pub user_frames : ℕ
  pub sectors : ℕ
  -- the words of the disk, by sector and place
  pub sector_words : WordMap
  -- how many bytes the device of each terminal has written
  pub counts : (tty : ℕ) → ℕ
  pub handover : Option HandOver

-- The bytes on a tape of a plant, as a number of 32 bits, which stops at the last value. A plant that has no memory yet
-- has written none.
abbrev pub tape_count : PlantState → (tty : ℕ) → ℕ
tape_count s tty =
    if is_some (words_of s.memory 0 0) then min (length (tty_of s tty).tape) (2 ^ 32 - 1) else 0

-- a plant that runs, or whose run is over: its live area, and no panic handed anything over; it has no disk yet
abbrev pub state_of : PlantState → DeadState
state_of s = record {
  area = s.live;
  user_frames = s.shape.user_frames;
  sectors = s.shape.sectors;
  sector_words = λ sector word. None;
  counts = tape_count s;
  handover = None;
}

-- the frames for pages in a half of memory of so many words: it has a boot frame, and two halves of 128 frames and these
abbrev pub frames_for_pages : (words : ℕ) → ℕ
frames_for_pages words = min ((words / 1024 - 257) / 2) 384

-- a kernel as the record of its panic has it; there is no disk yet
abbrev pub state_of_record : PanicRecord → DeadState
state_of_record r = record {
  area = r.area;
  user_frames = frames_for_pages (length r.image);
  sectors = 0;
  sector_words = λ sector word. None;
  counts = λ tty. slice_index r.tapes tty;
  handover = hand_over_in (take 40 r.image);
}
