-- Bytes packed into words are packed in one way.
use Rattle.std.proofs.Common.{◌≡◌, ℕ, zero, suc, ◌+◌, ◌*◌, ◌/◌, ◌%◌, ◌^◌, ◌<◌, ◌∙◌, sym, refl, arith, List, [], ◌∷◌, length, get_or, take, drop}
use Rattle.std.proofs.lemmas.Grind.{common_steps}
use Rattle.std.proofs.lemmas.List.{ext_get_or}
use Rattle.ow_base.specs.Words.{byte_of_words}
use Rattle.ow_base.specs.Seals.{AreWords}
use Rattle.record_layouts.specs.Packing.{ArePacked, unpacked}

-- words hold one list of bytes
pub one_reading : {words some others : List ℕ} → ArePacked words some → ArePacked words others → some ≡ others
one_reading {words = words} {some = some} {others = others} is is_too =
    ext_get_or 0 some others (is.filled ∙ sym is_too.filled)
    (λ j less. is.each j less ∙ sym (is_too.each j (omega (arith, is.filled, is_too.filled))))

-- a word is its four bytes
word_of : (word : ℕ) → word < 2 ^ 32 → word ≡ word % 256 + 256 * (word / 256 % 256) + 65536 * (word / 65536 % 256) + 16777216 * (word / 16777216 % 256)
word_of word fits = omega arith

byte_in : (words : List ℕ) (k i : ℕ) → i < 4 → byte_of_words words (4 * k + i) ≡ get_or words k 0 / 256 ^ i % 256
byte_in words k i less =
    let quotient : (4 * k + i) / 4 ≡ k = omega arith in
    let rest : (4 * k + i) % 4 ≡ i = omega arith in
    rw (quotient, rest)

module _ (some others bytes : List ℕ) (is : ArePacked some bytes) (is_too : ArePacked others bytes) where
  same_byte : (k i : ℕ) → k < length some → i < 4 → get_or some k 0 / 256 ^ i % 256 ≡ get_or others k 0 / 256 ^ i % 256
  same_byte k i less small =
      let within : 4 * k + i < length bytes = omega (arith, is.filled) in
      sym (byte_in some k i small) ∙ sym (is.each (4 * k + i) within) ∙ is_too.each (4 * k + i) within ∙ byte_in others k i small

  same_word : (k : ℕ) → k < length some → get_or some k 0 < 2 ^ 32 → get_or others k 0 < 2 ^ 32 → get_or some k 0 ≡ get_or others k 0
  same_word k less fits fits_too =
      omega (arith, same_byte k 0 less (omega arith), same_byte k 1 less (omega arith), same_byte k 2 less (omega arith), same_byte k 3 less (omega arith))

-- a part of words is words
pub part_fits : (words : List ℕ) (first count : ℕ) → AreWords words → AreWords (take count (drop first words))
part_fits words first count fits k = grind (arith, common_steps, fits (first + k))

-- and bytes have one list of words
pub one_packing : {some others bytes : List ℕ} → ArePacked some bytes → ArePacked others bytes → AreWords some → AreWords others → some ≡ others
one_packing {some = some} {others = others} {bytes = bytes} is is_too fits fits_too =
    ext_get_or 0 some others (omega (arith, is.filled, is_too.filled))
    (λ k less. same_word some others bytes is is_too k less (fits k) (fits_too k))

-- what is unpacked from words are the bytes in them
unpacked_length : (words : List ℕ) → length (unpacked words) ≡ 4 * length words
unfolding unpacked
unpacked_length [] = refl
unpacked_length (word ∷ words) = omega (arith, unpacked_length words)

later_byte : (word : ℕ) (words : List ℕ) (i : ℕ) → byte_of_words (word ∷ words) (suc (suc (suc (suc i)))) ≡ byte_of_words words i
later_byte word words i =
    let quotient : suc (suc (suc (suc i))) / 4 ≡ suc (i / 4) = omega arith in
    let rest : suc (suc (suc (suc i))) % 4 ≡ i % 4 = omega arith in
    rw (quotient, rest) refl

unpacked_byte : (words : List ℕ) (j : ℕ) → get_or (unpacked words) j 0 ≡ byte_of_words words j
unfolding unpacked
unpacked_byte [] j = omega arith
unpacked_byte (word ∷ words) zero = omega arith
unpacked_byte (word ∷ words) (suc zero) = omega arith
unpacked_byte (word ∷ words) (suc (suc zero)) = omega arith
unpacked_byte (word ∷ words) (suc (suc (suc zero))) = omega arith
unpacked_byte (word ∷ words) (suc (suc (suc (suc i)))) = unpacked_byte words i ∙ sym (later_byte word words i)

pub are_unpacked : (words : List ℕ) → ArePacked words (unpacked words)
are_unpacked words = record { filled = unpacked_length words; each = λ j less. unpacked_byte words j }
