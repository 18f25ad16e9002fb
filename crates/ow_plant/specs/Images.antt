-- The image of a plant, and that of a panic in its history.
use Rattle.std.specs.Prelude.{◌≡◌, ℕ, ◌==◌, if◌then◌else◌, List, [], ◌++◌, take, slice_index}
use Rattle.ow_base.specs.Images.{Image, words_in}
use Rattle.ow_base.specs.declared.worlds.PanicRecord.{PanicRecord}
use Rattle.phys_memory.specs.Memory.{words_of}
use Rattle.ow_plant.specs.State.{PlantState}

-- the tapes of the two terminals
abbrev pub tapes_of : PlantState → (tty : ℕ) → List ℕ
tapes_of s tty = if tty == 0 then s.tty0.tape else if tty == 1 then s.tty1.tape else []

-- the tapes of the one are fronts of those of the other
abbrev pub AreFronts : (old new : PlantState) → Type 0
AreFronts old new = (tty : ℕ) → (more : List ℕ) × (tapes_of new tty ≡ tapes_of old tty ++ more)

-- what memory and terminals are now
abbrev pub image_of : PlantState → Image
image_of s = record {
  words = words_of s.memory;
  area = s.live;
  user_frames = s.shape.user_frames;
  sectors = s.shape.sectors;
  tapes = tapes_of s;
}

-- What they were when a panic was entered. Tapes only grow, so what they had then is their first bytes now, as many as the
-- entry tells.
abbrev pub entry_image : PlantState → PanicRecord → Image
entry_image s entry = record {
  words = words_in entry.image;
  area = entry.area;
  user_frames = s.shape.user_frames;
  sectors = s.shape.sectors;
  tapes = λ tty. take (slice_index entry.tapes tty) (tapes_of s tty);
}
