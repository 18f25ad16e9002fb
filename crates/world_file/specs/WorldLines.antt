-- What a line of a world text is by itself: its tokens, what the first of them makes it, and its fields.
use Rattle.std.specs.Prelude.{ℕ, ◌^◌, Bool, true, false, nat_lt, nat_le, ◌&&◌, ◌||◌, ◌==◌, if◌then◌else◌, List, [], ◌∷◌, length, get_or, drop, filter_map, codes, decimal, bytes_eq, Option, Some, None, unwrap_or}
use Rattle.std.specs.List.{list_all}
use Rattle.std.specs.Str.Parse.{digits_value}
use Rattle.ow_base.specs.Lines.{hex8}
use Rattle.world_file.specs.declared.key.Key.{Key}
use Rattle.world_file.specs.declared.key.Key.TheVariants.{World, Frames, Sectors, Quantum, Budget, Program, Code, Data, Start, Panic, End, Unbuilt, Unknown}

-- the bytes of a line, without its line feed
abbrev pub Line : Type 0
Line = List ℕ

-- the pieces of a text between separators; there is one more of them than separators
abbrev pub with_byte : (byte : ℕ) → List (List ℕ) → List (List ℕ)
with_byte byte [] = []
with_byte byte (piece ∷ others) = (byte ∷ piece) ∷ others

unfoldable pub pieces : (separator : ℕ) → List ℕ → List (List ℕ)
pieces separator [] = [] ∷ []
pieces separator (b ∷ bs) = if b == separator then [] ∷ pieces separator bs else with_byte b (pieces separator bs)

-- the tokens of a line, between single spaces; one may be empty
unfoldable pub tokens : Line → List (List ℕ)
tokens line = pieces 32 line

-- a token of a line, the first being token 0
abbrev pub token_at : (place : ℕ) → Line → List ℕ
token_at place line = get_or (tokens line) place []

-- the tokens behind the first
abbrev pub fields : Line → List (List ℕ)
fields line = drop 1 (tokens line)

-- what a line is by its first token
abbrev pub is_unbuilt_word : List ℕ → Bool
is_unbuilt_word word = bytes_eq word (codes "file") || (bytes_eq word (codes "put") || (bytes_eq word (codes "type")
    || (bytes_eq word (codes "damage") || bytes_eq word (codes "again"))))

unfoldable pub key_of : (word : List ℕ) → Key
key_of word =
    if bytes_eq word (codes "world") then World else
    if bytes_eq word (codes "frames") then Frames else
    if bytes_eq word (codes "sectors") then Sectors else
    if bytes_eq word (codes "quantum") then Quantum else
    if bytes_eq word (codes "budget") then Budget else
    if bytes_eq word (codes "program") then Program else
    if bytes_eq word (codes "code") then Code else
    if bytes_eq word (codes "data") then Data else
    if bytes_eq word (codes "start") then Start else
    if bytes_eq word (codes "panic") then Panic else
    if bytes_eq word (codes "end") then End else
    if is_unbuilt_word word then Unbuilt else Unknown

abbrev pub key : Line → Key
key line = key_of (token_at 0 line)

-- the number below 2 ^ 32 that is spelled so
abbrev pub number_read : (value : ℕ) (spelling text : List ℕ) → Option ℕ
number_read value spelling text = if nat_lt value (2 ^ 32) && bytes_eq text spelling then Some value else None

unfoldable pub number_of : List ℕ → Option ℕ
number_of text = number_read (digits_value 10 text) (decimal (digits_value 10 text)) text

unfoldable pub word_of : List ℕ → Option ℕ
word_of text = number_read (digits_value 16 text) (hex8 (digits_value 16 text)) text

-- a numeral from the lowest to the highest number
abbrev pub is_in : (lowest highest : ℕ) → Option ℕ → Bool
is_in lowest highest None = false
is_in lowest highest (Some n) = nat_le lowest n && nat_le n highest

abbrev pub is_number : (lowest highest : ℕ) → List ℕ → Bool
is_number lowest highest field = is_in lowest highest (number_of field)

abbrev pub is_visible : (byte : ℕ) → Bool
is_visible byte = nat_le 33 byte && nat_le byte 126

-- a name: 1 to 24 bytes of 33 to 126
unfoldable pub is_name : List ℕ → Bool
is_name name = (nat_le 1 (length name) && nat_le (length name) 24) && list_all is_visible name

-- eight digits
abbrev pub is_there : {A : Type 0} → Option A → Bool
is_there None = false
is_there (Some a) = true

abbrev pub is_word : List ℕ → Bool
is_word field = is_there (word_of field)

abbrev pub is_empty : List ℕ → Bool
is_empty [] = true
is_empty (b ∷ bs) = false

-- the number that a field is, 0 where it is none
abbrev pub number_at : (place : ℕ) → Line → ℕ
number_at place line = unwrap_or (number_of (token_at place line)) 0

-- the numbers that the fields are, as words of eight digits
unfoldable pub words_of : Line → List ℕ
words_of line = filter_map word_of (fields line)
