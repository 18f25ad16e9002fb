-- A value in a word: what its bytes are, and what they become where a value is written.
use Rattle.std.proofs.Common.{◌≡◌, ◌≢◌, ℕ, zero, suc, ◌+◌, ◌-◌, ◌*◌, ◌/◌, ◌%◌, ◌<◌, refl, arith, nat_le, nat_lt}
use Rattle.std.proofs.lemmas.Bool.Decides.{nat_tests}
use Rattle.ow_base.specs.Pages.{value_at, with_value}
use Rattle.ow_base.specs.Sv32.{byte_of, value_of, overwritten}
use Rattle.ow_base.specs.UserStep.{size_of}
use Rattle.ow_base.specs.declared.machine.Width.{Width}
use Rattle.ow_base.specs.declared.machine.Width.TheVariants.{Byte, Half, Word}

-- a half and a word are their bytes
half_of_bytes : (word k : ℕ) → k < 4 → k % 2 ≡ 0 → byte_of word k + 256 * byte_of word (k + 1) ≡ value_of word k Half
half_of_bytes word zero small even = omega arith
half_of_bytes word (suc zero) small even = absurd (omega arith)
half_of_bytes word (suc (suc zero)) small even = omega arith
half_of_bytes word (suc (suc (suc k))) small even = absurd (omega arith)

word_of_bytes : (word : ℕ) → byte_of word 0 + 256 * byte_of word 1 + 65536 * byte_of word 2 + 16777216 * byte_of word 3 ≡ value_of word 0 Word
word_of_bytes word = omega arith

-- each byte of a word in which a byte, a half or the whole is written
byte_at_0 : (word value j : ℕ) → j < 4 → byte_of (overwritten word 0 Byte value) j ≡ with_value (byte_of word) 0 Byte value j
byte_at_0 word value zero fits = omega arith
byte_at_0 word value (suc zero) fits = omega arith
byte_at_0 word value (suc (suc zero)) fits = omega arith
byte_at_0 word value (suc (suc (suc zero))) fits = omega arith
byte_at_0 word value (suc (suc (suc (suc j)))) fits = absurd (omega arith)

byte_at_1 : (word value j : ℕ) → j < 4 → byte_of (overwritten word 1 Byte value) j ≡ with_value (byte_of word) 1 Byte value j
byte_at_1 word value zero fits = omega arith
byte_at_1 word value (suc zero) fits = omega arith
byte_at_1 word value (suc (suc zero)) fits = omega arith
byte_at_1 word value (suc (suc (suc zero))) fits = omega arith
byte_at_1 word value (suc (suc (suc (suc j)))) fits = absurd (omega arith)

byte_at_2 : (word value j : ℕ) → j < 4 → byte_of (overwritten word 2 Byte value) j ≡ with_value (byte_of word) 2 Byte value j
byte_at_2 word value zero fits = omega arith
byte_at_2 word value (suc zero) fits = omega arith
byte_at_2 word value (suc (suc zero)) fits = omega arith
byte_at_2 word value (suc (suc (suc zero))) fits = omega arith
byte_at_2 word value (suc (suc (suc (suc j)))) fits = absurd (omega arith)

byte_at_3 : (word value j : ℕ) → j < 4 → byte_of (overwritten word 3 Byte value) j ≡ with_value (byte_of word) 3 Byte value j
byte_at_3 word value zero fits = omega arith
byte_at_3 word value (suc zero) fits = omega arith
byte_at_3 word value (suc (suc zero)) fits = omega arith
byte_at_3 word value (suc (suc (suc zero))) fits = omega arith
byte_at_3 word value (suc (suc (suc (suc j)))) fits = absurd (omega arith)

half_at_0 : (word value j : ℕ) → j < 4 → byte_of (overwritten word 0 Half value) j ≡ with_value (byte_of word) 0 Half value j
half_at_0 word value zero fits = omega arith
half_at_0 word value (suc zero) fits = omega arith
half_at_0 word value (suc (suc zero)) fits = omega arith
half_at_0 word value (suc (suc (suc zero))) fits = omega arith
half_at_0 word value (suc (suc (suc (suc j)))) fits = absurd (omega arith)

half_at_2 : (word value j : ℕ) → j < 4 → byte_of (overwritten word 2 Half value) j ≡ with_value (byte_of word) 2 Half value j
half_at_2 word value zero fits = omega arith
half_at_2 word value (suc zero) fits = omega arith
half_at_2 word value (suc (suc zero)) fits = omega arith
half_at_2 word value (suc (suc (suc zero))) fits = omega arith
half_at_2 word value (suc (suc (suc (suc j)))) fits = absurd (omega arith)

word_at_0 : (word value j : ℕ) → j < 4 → byte_of (overwritten word 0 Word value) j ≡ with_value (byte_of word) 0 Word value j
word_at_0 word value zero fits = omega arith
word_at_0 word value (suc zero) fits = omega arith
word_at_0 word value (suc (suc zero)) fits = omega arith
word_at_0 word value (suc (suc (suc zero))) fits = omega arith
word_at_0 word value (suc (suc (suc (suc j)))) fits = absurd (omega arith)

pub byte_of-overwritten : (word k j : ℕ) (width : Width) (value : ℕ) → k < 4 → j < 4 → k % size_of width ≡ 0
    → byte_of (overwritten word k width value) j ≡ with_value (byte_of word) k width value j
byte_of-overwritten word zero j Byte value k_fits j_fits aligned = byte_at_0 word value j j_fits
byte_of-overwritten word (suc zero) j Byte value k_fits j_fits aligned = byte_at_1 word value j j_fits
byte_of-overwritten word (suc (suc zero)) j Byte value k_fits j_fits aligned = byte_at_2 word value j j_fits
byte_of-overwritten word (suc (suc (suc zero))) j Byte value k_fits j_fits aligned = byte_at_3 word value j j_fits
byte_of-overwritten word zero j Half value k_fits j_fits aligned = half_at_0 word value j j_fits
byte_of-overwritten word (suc (suc zero)) j Half value k_fits j_fits aligned = half_at_2 word value j j_fits
byte_of-overwritten word zero j Word value k_fits j_fits aligned = word_at_0 word value j j_fits
byte_of-overwritten _ _ _ _ _ k_fits j_fits aligned = absurd (omega arith)

-- what is read of a word at an aligned place is the value of the bytes from there on
pub value_of-bytes : (bytes : ℕ → ℕ) (word a k : ℕ) (width : Width) → k < 4 → k % size_of width ≡ 0
    → ((b j : ℕ) → b + k ≡ a + j → j < 4 → bytes b ≡ byte_of word j) → value_at bytes a width ≡ value_of word k width
value_of-bytes bytes word a k Byte fits aligned same = same a k refl fits
value_of-bytes bytes word a k Half fits aligned same =
    let first : bytes a ≡ byte_of word k = same a k refl fits in
    let second : bytes (a + 1) ≡ byte_of word (k + 1) = same (a + 1) (k + 1) (omega arith) (omega arith) in
    rw (first, second) (half_of_bytes word k fits aligned)
value_of-bytes bytes word a zero Word fits aligned same =
    let first : bytes a ≡ byte_of word 0 = same a 0 (omega arith) (omega arith) in
    let second : bytes (a + 1) ≡ byte_of word 1 = same (a + 1) 1 (omega arith) (omega arith) in
    let third : bytes (a + 2) ≡ byte_of word 2 = same (a + 2) 2 (omega arith) (omega arith) in
    let fourth : bytes (a + 3) ≡ byte_of word 3 = same (a + 3) 3 (omega arith) (omega arith) in
    rw (first, second, third, fourth) (word_of_bytes word)
value_of-bytes bytes word a (suc k) Word fits aligned same = absurd (omega arith)

-- a value that is written at one place is written at another, as far behind each
pub shifted : (f g : ℕ → ℕ) (base k j a b : ℕ) (width : Width) (value : ℕ) → a ≡ base + k → b ≡ base + j → f j ≡ g b
    → with_value f k width value j ≡ with_value g a width value b
shifted f g base k j a b width value at_a at_b same =
    let from : nat_le a b ≡ nat_le k j = grind (arith, nat_tests) in
    let to : nat_lt b (a + size_of width) ≡ nat_lt j (k + size_of width) = grind (arith, nat_tests) in
    let place : b - a ≡ j - k = omega arith in
    cc

-- an address in another word than an aligned value's is outside the value
pub outside : (g : ℕ → ℕ) (a b : ℕ) (width : Width) (value : ℕ) → a % size_of width ≡ 0 → b / 4 ≢ a / 4
    → with_value g a width value b ≡ g b
outside g a b Byte value aligned apart = grind (arith, nat_tests)
outside g a b Half value aligned apart = grind (arith, nat_tests)
outside g a b Word value aligned apart = grind (arith, nat_tests)
