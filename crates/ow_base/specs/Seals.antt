-- The seal of a record: its last word, by which a change of one word is seen.
use Rattle.std.specs.Prelude.{◌≡◌, ℕ, ◌-◌, ◌^◌, ◌<◌, List, [], ◌∷◌, length, take, drop, slice_index, slice_set, bit_xor}
use Rattle.std.specs.Int.{rotate_left, w32}

-- each is a number of 32 bits
abbrev pub AreWords : List ℕ → Type 0
AreWords words = (k : ℕ) → slice_index words k < 2 ^ 32

-- the seal that begins as this word: each word turns it left by five bits and is then joined to it
unfoldable pub seal_from : ℕ → List ℕ → ℕ
seal_from begun [] = begun
seal_from begun (word ∷ words) = seal_from (bit_xor (rotate_left w32 begun 5) word) words

-- the seal of a record: it begins as the first word, and takes all others but the last
abbrev pub seal_of : List ℕ → ℕ
seal_of words = seal_from (slice_index words 0) (take (length words - 2) (drop 1 words))

-- the last word is the seal of those before it
abbrev pub IsSealed : List ℕ → Type 0
IsSealed words = slice_index words (length words - 1) ≡ seal_of words

-- the words with their seal in place of the last
abbrev pub sealed : List ℕ → List ℕ
sealed words = slice_set words (length words - 1) (seal_of words)
