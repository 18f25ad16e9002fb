-- Memory: frames of 1,024 words in one numbering, the boot frame first, then the frames of half A, then those of half B.
use Rattle.std.specs.Prelude.{◌≡◌, ℕ, ◌+◌, ◌-◌, ◌*◌, ◌/◌, ◌%◌, nat_lt, ◌&&◌, if◌then◌else◌, List, ◌++◌, drop, length, replicate, slice_index, slice_set, Some, None}
use Rattle.ow_base.specs.Sv32.{WordMap}

-- the words of the boot frame and of the two halves
pub record MemoryParts : Type 0 where
  pub boot : List ℕ
  pub a : List ℕ
  pub b : List ℕ

-- the words in the order of their numbers
abbrev pub whole : MemoryParts → List ℕ
whole m = m.boot ++ (m.a ++ m.b)

abbrev pub frame_count : MemoryParts → ℕ
frame_count m = length (whole m) / 1024

-- the word at each frame and place; there is none where there is no such frame
unfoldable pub words_of : MemoryParts → WordMap
words_of m frame word = if nat_lt word 1024 && nat_lt frame (frame_count m) then Some (slice_index (whole m) (1024 * frame + word)) else None

-- the parts with the word at this number of the whole set, in the part that has it
abbrev pub with_nth : MemoryParts → (at value : ℕ) → MemoryParts
with_nth m at value =
    if nat_lt at (length m.boot) then record m { boot = slice_set m.boot at value } else
    if nat_lt at (length m.boot + length m.a) then record m { a = slice_set m.a (at - length m.boot) value } else
    record m { b = slice_set m.b (at - (length m.boot + length m.a)) value }

-- the parts with one word of a frame set
unfoldable pub with_word : MemoryParts → (frame word value : ℕ) → MemoryParts
with_word m frame word value = with_nth m (1024 * frame + word) value

-- the parts with the first words of the boot frame set
abbrev pub with_first : MemoryParts → (words : List ℕ) → MemoryParts
with_first m words = record m { boot = words ++ drop (length words) m.boot }

-- each part is made of whole frames
pub record AreWholeFrames (m : MemoryParts) : Type 0 where
  pub boot : length m.boot % 1024 ≡ 0
  pub a : length m.a % 1024 ≡ 0
  pub b : length m.b % 1024 ≡ 0

-- a boot frame, and in each half the area, the cache frames and so many user frames
pub record IsSized (user_frames : ℕ) (m : MemoryParts) : Type 0 where
  pub boot : length m.boot ≡ 1024
  pub a : length m.a ≡ 1024 * (128 + user_frames)
  pub b : length m.b ≡ 1024 * (128 + user_frames)

-- so many frames with 0 in each word
unfoldable pub blank_frames : (count : ℕ) → List ℕ
blank_frames count = replicate (1024 * count) 0

-- memory of this size with 0 in each word
abbrev pub zeroed : (user_frames : ℕ) → MemoryParts
zeroed user_frames = record { boot = blank_frames 1; a = blank_frames (128 + user_frames); b = blank_frames (128 + user_frames) }
