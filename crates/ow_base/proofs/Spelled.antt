-- What the digits of numbers are, in decimal and in hexadecimal.
use Rattle.std.proofs.Common.{◌≡◌, ℕ, zero, suc, ◌+◌, ◌*◌, ◌/◌, ◌%◌, ◌^◌, ◌<◌, List, [], ◌∷◌, ◌++◌, length, get_or, take, arith, ap, ◌∙◌, sym, refl, decimal}
use Rattle.std.specs.Char.{digit_value}
use Rattle.std.specs.Str.Parse.{AllDigits, IsNumeral, digits_value}
use Rattle.std.proofs.lemmas.Int.Digits.{digits_value_more}
use Rattle.std.proofs.lemmas.Str.Parse.{IsNumeralModel, numerals_by_value, tells_digits, digits_value-take-le}
use Rattle.std.proofs.lemmas.Fmt.{decimal-digits_value, decimal_is_IsNumeral, first_decimal, decimal_digit}
use Rattle.ow_base.specs.Lines.{hex_digit_at, hex8}

-- std's digits and their value
numerals : IsNumeralModel (AllDigits 10) (digits_value 10)
numerals = numerals_by_value (AllDigits 10) tells_digits

digit_below : (ds : List ℕ) (i : ℕ) → AllDigits 10 ds → i < length ds → digit_value (get_or ds i 0) < 10
digit_below [] i all h = absurd (omega arith)
digit_below (d ∷ ds) zero all h = all.0
digit_below (d ∷ ds) (suc i) all h = digit_below ds i all.1 (omega arith)

-- digits of which one is refused, or of which some are too great a number, have no value below 2 to the 32
pub no_value : (ds : List ℕ) (i value : ℕ) → i < length ds → value ≡ digits_value 10 (take i ds)
    → (digit_value (get_or ds i 0) < 10 → value * 10 + digit_value (get_or ds i 0) < 2 ^ 32 → ⊥)
    → IsNumeral 10 ds → digits_value 10 ds < 2 ^ 32 → ⊥
no_value ds i value within is refused numeral small =
    refused (digit_below ds i numeral.1 within)
    (omega (arith, digits_value_more 10 ds i within, digits_value-take-le 10 ds (i + 1) (omega arith)))

-- a numeral with no leading zero is spelled as its value
pub spelled : (text : List ℕ) → IsNumeral 10 text → (get_or text 0 0 ≡ 48 → length text ≡ 1) → digits_value 10 text < 2 ^ 32
    → text ≡ decimal (digits_value 10 text)
spelled text numeral first small = sym (decimal-digits_value numerals text numeral.1 numeral.0 first (omega arith))

-- what is spelled is a numeral of that value
pub numeral_of : (text : List ℕ) (n : ℕ) → n < 2 ^ 32 → text ≡ decimal n → IsNumeral 10 text × (digits_value 10 text ≡ n)
numeral_of text n small e = rw e (decimal_is_IsNumeral n (omega arith))

-- what is spelled begins with no zero
pub no_leading_zero : (text : List ℕ) (n : ℕ) → n < 2 ^ 32 → text ≡ decimal n → 1 < length text → get_or text 0 0 ≡ 48 → ⊥
no_leading_zero text zero small e long first = omega (arith, ap length (e ∙ decimal_digit 0 (omega arith)))
no_leading_zero text (suc n) small e long first = omega (arith, first_decimal (suc n) (omega arith) (omega arith), ap (λ t. get_or t 0 0) e)

-- four digits of a word, the highest first
abbrev pub half : ℕ → List ℕ
half h = hex_digit_at 3 h ∷ hex_digit_at 2 h ∷ hex_digit_at 1 h ∷ hex_digit_at 0 h ∷ []

abbrev pub first_half : List ℕ → List ℕ
first_half t = get_or t 0 0 ∷ get_or t 1 0 ∷ get_or t 2 0 ∷ get_or t 3 0 ∷ []

abbrev pub second_half : List ℕ → List ℕ
second_half t = get_or t 4 0 ∷ get_or t 5 0 ∷ get_or t 6 0 ∷ get_or t 7 0 ∷ []

pub eight : (text : List ℕ) (w : ℕ) → text ≡ hex8 w → length text ≡ 8
unfolding hex8
eight text w e = ap length e

first_digits : (w : ℕ) → hex_digit_at 7 w ∷ hex_digit_at 6 w ∷ hex_digit_at 5 w ∷ hex_digit_at 4 w ∷ [] ≡ half (w / 65536)
first_digits w =
    let a : w / 16 ^ 7 % 16 ≡ w / 65536 / 16 ^ 3 % 16 = omega arith in
    let b : w / 16 ^ 6 % 16 ≡ w / 65536 / 16 ^ 2 % 16 = omega arith in
    let c : w / 16 ^ 5 % 16 ≡ w / 65536 / 16 ^ 1 % 16 = omega arith in
    let d : w / 16 ^ 4 % 16 ≡ w / 65536 / 16 ^ 0 % 16 = omega arith in
    rw (a, b, c, d) refl

last_digits : (high low : ℕ) → low < 65536 → half (high * 65536 + low) ≡ half low
last_digits high low small =
    let a : (high * 65536 + low) / 16 ^ 3 % 16 ≡ low / 16 ^ 3 % 16 = omega arith in
    let b : (high * 65536 + low) / 16 ^ 2 % 16 ≡ low / 16 ^ 2 % 16 = omega arith in
    let c : (high * 65536 + low) / 16 ^ 1 % 16 ≡ low / 16 ^ 1 % 16 = omega arith in
    let d : (high * 65536 + low) / 16 ^ 0 % 16 ≡ low / 16 ^ 0 % 16 = omega arith in
    rw (a, b, c, d) refl

pub first_of_word : (text : List ℕ) (w : ℕ) → text ≡ hex8 w → first_half text ≡ half (w / 65536)
unfolding hex8
first_of_word text w e = ap first_half e ∙ first_digits w

pub second_of_word : (text : List ℕ) (w : ℕ) → text ≡ hex8 w → second_half text ≡ half w
unfolding hex8
second_of_word text w e = ap second_half e

-- a text of eight bytes is its two halves
halves : (text : List ℕ) → length text ≡ 8 → text ≡ first_half text ++ second_half text
halves (a ∷ b ∷ c ∷ d ∷ e ∷ f ∷ g ∷ h ∷ []) l = refl
halves _ l = absurd (omega arith)

word_halves : (w : ℕ) → hex8 w ≡ half (w / 65536) ++ half w
unfolding hex8
word_halves w = ap (λ t. t ++ half w) (first_digits w)

-- a text of eight bytes that are two halves is the word of both
pub joined : (text : List ℕ) (high low : ℕ) → length text ≡ 8 → low < 65536 → first_half text ≡ half high → second_half text ≡ half low → text ≡ hex8 (high * 65536 + low)
joined text high low long small first second =
    let top : (high * 65536 + low) / 65536 ≡ high = omega arith in
    halves text long ∙ ap (λ t. t ++ second_half text) (first ∙ sym (ap half top))
    ∙ ap (λ t. half ((high * 65536 + low) / 65536) ++ t) (second ∙ sym (last_digits high low small))
    ∙ sym (word_halves (high * 65536 + low))

-- what is spelled is no text without a value
pub refused : (text : List ℕ) (n : ℕ) → n < 2 ^ 32 → text ≡ decimal n → (IsNumeral 10 text → digits_value 10 text < 2 ^ 32 → ⊥) → ⊥
refused text n small e without = let numeral = numeral_of text n small e in without numeral.0 (omega (arith, numeral.1))
