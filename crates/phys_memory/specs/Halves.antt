-- The two halves of memory while one kernel is dead: its half is only read, and the other half is written.
use Rattle.std.specs.Prelude.{ℕ, ◌+◌, ◌-◌, ◌*◌, ◌/◌, Bool, nat_lt, not, ◌&&◌, if◌then◌else◌, List, length, slice_index, Some, None}
use Rattle.ow_base.specs.Sv32.{WordMap}
use Rattle.ow_base.specs.declared.machine.AreaId.{AreaId}
use Rattle.ow_base.specs.declared.machine.AreaId.TheVariants.{A, B}
use Rattle.phys_memory.specs.Memory.{MemoryParts, words_of}

-- the words of the half that is not dead
abbrev pub own_half : MemoryParts → (dead : AreaId) → List ℕ
own_half m A = m.b
own_half m B = m.a

-- how many words lie before that half
abbrev pub words_before : MemoryParts → (dead : AreaId) → ℕ
words_before m A = length m.boot + length m.a
words_before m B = length m.boot

-- the number of its first frame
abbrev pub first_own : MemoryParts → (dead : AreaId) → ℕ
first_own m dead = words_before m dead / 1024

-- whether a frame is among those that lie one behind the other from a first one on
abbrev pub is_among : (first : ℕ) → (words : List ℕ) → (frame : ℕ) → Bool
is_among first words frame = not (nat_lt frame first) && nat_lt frame (first + length words / 1024)

-- the words of such frames
abbrev pub words_from : (first : ℕ) → (words : List ℕ) → WordMap
words_from first words frame word =
    if nat_lt word 1024 && is_among first words frame then Some (slice_index words (1024 * (frame - first) + word)) else None

-- whether a frame is of the half that is not dead
abbrev pub is_own : MemoryParts → (dead : AreaId) → (frame : ℕ) → Bool
is_own m dead frame = is_among (first_own m dead) (own_half m dead) frame

-- the words that are read while the other half is lent: all but those of that half
unfoldable pub words_beside : MemoryParts → (dead : AreaId) → WordMap
words_beside m dead frame word = if is_own m dead frame then None else words_of m frame word

-- memory with other words in the half that is not dead
abbrev pub with_own : MemoryParts → (dead : AreaId) → (words : List ℕ) → MemoryParts
with_own m A words = record m { b = words }
with_own m B words = record m { a = words }
