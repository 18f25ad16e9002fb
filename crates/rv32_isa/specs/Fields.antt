-- The ranges of the fields of an instruction.
use Rattle.std.specs.Prelude.{◌≡◌, ℕ, ◌+◌, ◌-◌, ◌%◌, ◌^◌, ◌<◌}
use Rattle.ow_base.specs.Words.{wrapped}

-- a word of 32 bits is a signed number of so many bits, in two's complement
abbrev pub IsSigned : (count word : ℕ) → Type 0
IsSigned count word = (word < 2 ^ 32) × (wrapped (word + 2 ^ (count - 1)) < 2 ^ count)

-- it is such a number, and even
abbrev pub IsEvenSigned : (count word : ℕ) → Type 0
IsEvenSigned count word = IsSigned count word × (word % 2 ≡ 0)
