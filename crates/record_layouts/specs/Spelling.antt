-- What the layouts of all records share.
use Rattle.std.specs.Prelude.{◌≡◌, ℕ, ◌-◌, ◌^◌, ◌<◌, ◌≤◌, ◌⊎◌, Bool, nat_lt, nat_le, ◌==◌, ◌&&◌, ◌||◌, if◌then◌else◌, List, length, take, drop, slice_index, Option, Some, None}
use Rattle.std.specs.List.{list_all}
use Rattle.ow_base.specs.Seals.{seal_of}

-- the words from `first` up to `end`, without it, are 0
abbrev pub AreZero : List ℕ → ℕ → ℕ → Type 0
AreZero words first end = (k : ℕ) → first ≤ k → k < end → slice_index words k ≡ 0

-- the word says how a process ended: its exit code, the signal or the fault that killed it, or the mask of what
-- it lost with an old kernel
abbrev pub IsStatus : ℕ → Type 0
IsStatus word = (word ≤ 0xff) ⊎ ((0x101 ≤ word) × (word ≤ 0x10f)) ⊎ ((0x200 ≤ word) × (word ≤ 0x20f)) ⊎ ((0x300 ≤ word) × (word ≤ 0x30f))

-- The same as tests, for what a list of words is read as.

-- a value, where a test says that it counts
abbrev pub only_where : {A : Type 0} → Bool → A → Option A
only_where counts value = if counts then Some value else None

abbrev pub lies_between : (first last n : ℕ) → Bool
lies_between first last n = nat_le first n && nat_le n last

unfoldable pub are_below : (bound : ℕ) → List ℕ → Bool
are_below bound words = list_all (λ word. nat_lt word bound) words

unfoldable pub are_zero : List ℕ → (first end : ℕ) → Bool
are_zero words first end = list_all (λ word. word == 0) (take (end - first) (drop first words))

unfoldable pub is_status : (word : ℕ) → Bool
is_status word = nat_le word 0xff || lies_between 0x101 0x10f word || lies_between 0x200 0x20f word || lies_between 0x300 0x30f word

-- so many words of 32 bits, the first of which names this kind of record, and the last of which is their seal
unfoldable pub is_sealed_record : (count kind : ℕ) → List ℕ → Bool
is_sealed_record count kind words =
    length words == count && are_below (2 ^ 32) words && slice_index words 0 == kind && slice_index words (length words - 1) == seal_of words
