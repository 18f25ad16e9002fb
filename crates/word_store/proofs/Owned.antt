-- Stores into the half of a kernel that takes over.
use Rattle.std.proofs.Common.{◌≡◌, ℕ, ◌+◌, ◌-◌, ◌*◌, ◌<◌, Bool, true, not, ◌||◌, List, [], ◌∷◌, slice_set, is_some, arith}
use Rattle.std.proofs.lemmas.Bool.Decides.{nat_tests}
use Rattle.std.proofs.lemmas.Grind.{common_steps}
use Rattle.std.specs.List.{list_any}
use Rattle.ow_plant.specs.Points.{is_in, is_past}
use Rattle.ow_plant.specs.declared.points.PanicPoint.{PanicPoint}
use Rattle.phys_memory.specs.Halves.{is_among, words_from}
use Rattle.word_store.specs.Stores.{with_word_at}

-- a word is there only where its frame is
pub among_there : (first : ℕ) (words : List ℕ) (frame word : ℕ) → is_some (words_from first words frame word) ≡ true → is_among first words frame ≡ true
among_there first words frame word there = grind (arith, nat_tests, common_steps, there)

word_set : (first : ℕ) (words : List ℕ) (frame word value f w : ℕ) → is_among first words frame ≡ true → word < 1024
    → words_from first (slice_set words (1024 * (frame - first) + word) value) f w ≡ with_word_at (words_from first words) frame word value f w
unfolding with_word_at
word_set first words frame word value f w there fits = grind (arith, nat_tests, common_steps, there)

pub words_set : (first : ℕ) (words : List ℕ) (frame word value : ℕ) → is_among first words frame ≡ true → word < 1024
    → words_from first (slice_set words (1024 * (frame - first) + word) value) ≡ with_word_at (words_from first words) frame word value
words_set first words frame word value there fits = λ i f w. word_set first words frame word value f w there fits i

-- a point of which the stores are made is one of the trap
pub past_is_in : (trap made : ℕ) (points : List PanicPoint) → list_any (is_past trap made) points ≡ true → list_any (is_in trap) points ≡ true
past_is_in trap made [] is = grind (arith, is)
past_is_in trap made (point ∷ points) is = grind (arith, nat_tests, common_steps, is, past_is_in trap made points)

-- a store that is refused while no refusal stands is of a trap with a point
pub refused_of_own : (points : List PanicPoint) (trap made : ℕ) (refused : Bool) → not refused ≡ true
    → refused || list_any (is_past trap made) points ≡ true → list_any (is_in trap) points ≡ true
refused_of_own points trap made refused able is = past_is_in trap made points (grind (arith, common_steps, able, is))
