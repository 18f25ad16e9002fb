-- How texts are spelled: lines, numbers, words in hexadecimal, and bytes in escape text.
use Rattle.std.specs.Prelude.{ℕ, ◌+◌, ◌/◌, ◌%◌, ◌^◌, nat_lt, nat_le, ◌&&◌, ◌==◌, if◌then◌else◌, List, [], ◌∷◌, ◌++◌, flat_map, decimal}

-- a line ends with a line feed
abbrev pub line : List ℕ → List ℕ
line text = text ++ 10 ∷ []

-- two words of a line, one space between them
abbrev pub spaced : List ℕ → List ℕ → List ℕ
spaced a b = a ++ (32 ∷ b)

-- a line of a key word and a number
abbrev pub number_line : (key : List ℕ) → (number : ℕ) → List ℕ
number_line key n = line (spaced key (decimal n))

-- a digit of `0-9a-f`
abbrev pub hex_digit : ℕ → ℕ
hex_digit d = if nat_lt d 10 then 48 + d else 87 + d

abbrev pub hex_digit_at : (place word : ℕ) → ℕ
hex_digit_at place word = hex_digit (word / 16 ^ place % 16)

-- a word as eight digits, the highest first
unfoldable pub hex8 : ℕ → List ℕ
hex8 w = hex_digit_at 7 w ∷ hex_digit_at 6 w ∷ hex_digit_at 5 w ∷ hex_digit_at 4 w
    ∷ hex_digit_at 3 w ∷ hex_digit_at 2 w ∷ hex_digit_at 1 w ∷ hex_digit_at 0 w ∷ []

-- a byte in escape text: 32 to 126 but the backslash stand for themselves, `\\` is a backslash, `\n` is a
-- line feed, and `\xHH` any other byte
unfoldable pub escaped_byte : ℕ → List ℕ
escaped_byte b =
    if b == 92 then 92 ∷ 92 ∷ [] else
    if b == 10 then 92 ∷ 110 ∷ [] else
    if nat_le 32 b && nat_le b 126 then b ∷ [] else
    92 ∷ 120 ∷ hex_digit (b / 16) ∷ hex_digit (b % 16) ∷ []

abbrev pub escaped : List ℕ → List ℕ
escaped bytes = flat_map escaped_byte bytes
