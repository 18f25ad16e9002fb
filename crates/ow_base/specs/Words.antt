-- Numbers of 32 bits, and a function changed at one place.
use Rattle.std.specs.Prelude.{ℕ, ◌+◌, ◌-◌, ◌/◌, ◌%◌, ◌^◌, nat_lt, ◌==◌, if◌then◌else◌, List, slice_index}

-- what is kept of a number in a register
abbrev pub wrapped : ℕ → ℕ
wrapped n = n % 2 ^ 32

-- the answer of a call that ends in this error
abbrev pub minus : ℕ → ℕ
minus error = 2 ^ 32 - error

-- the bits of a word from `low` on, `count` of them
abbrev pub bits : ℕ → ℕ → ℕ → ℕ
bits word low count = word / 2 ^ low % 2 ^ count

-- a number of `count` bits, its sign extended to 32
abbrev pub sign_extended : ℕ → ℕ → ℕ
sign_extended count n = if nat_lt n (2 ^ (count - 1)) then n else n + (2 ^ 32 - 2 ^ count)

-- byte j of a row of words, the lowest byte of each word first; 0 behind the last word
abbrev pub byte_of_words : List ℕ → ℕ → ℕ
byte_of_words words j = slice_index words (j / 4) / 256 ^ (j % 4) % 256

-- the function with this value at this place
abbrev pub updated : {V : Type 0} → (ℕ → V) → ℕ → V → ℕ → V
updated f place value k = if k == place then value else f k
