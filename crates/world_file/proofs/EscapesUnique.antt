-- Bytes in escape text are read back one by one, so that a text spells at most one list of them.
use Rattle.std.proofs.Common.{◌≡◌, ℕ, ◌+◌, ◌*◌, ◌/◌, ◌%◌, ◌<◌, Bool, true, false, nat_le, ◌&&◌, ◌==◌, if◌then◌else◌, List, [], ◌∷◌, ◌++◌, length, arith, ap, ◌∙◌, sym, refl}
use Rattle.std.specs.Char.{digit_value}
use Rattle.std.specs.List.{AllByRecursion}
use Rattle.std.proofs.lemmas.Bool.{eqb-true}
use Rattle.std.proofs.lemmas.List.Elements.{recursion_from_All}
use Rattle.ow_base.specs.Lines.{hex_digit, escaped_byte, escaped}
use Rattle.ow_base.specs.World.{AreBytes}
use Rattle.world_file.proofs.WorldPieces.{free, free-append}
use Rattle.world_file.proofs.WorldFields.{hex_is_not}
use Rattle.world_file.proofs.LinesUnique.{AreSame}
use Rattle.world_file.proofs.WorldNumbers.{digit}

-- the first byte that an escape text spells, and what is behind it
abbrev of_digits : List ℕ → ℕ × List ℕ
of_digits (high ∷ low ∷ rest) = (16 * digit_value high + digit_value low, rest)
of_digits rest = (0, rest)

abbrev behind_backslash : List ℕ → ℕ × List ℕ
behind_backslash [] = (92, [])
behind_backslash (mark ∷ rest) = if mark == 120 then of_digits rest else (if mark == 110 then 10 else 92, rest)

abbrev first_spelled : List ℕ → ℕ × List ℕ
first_spelled [] = (0, [])
first_spelled (b ∷ rest) = if b == 92 then behind_backslash rest else (b, rest)

two_digits : (b : ℕ) → b < 256 → 16 * digit_value (hex_digit (b / 16)) + digit_value (hex_digit (b % 16)) ≡ b
two_digits b small =
    let high = digit (b / 16) (omega arith) in
    let low = digit (b % 16) (omega arith) in
    omega (arith, high, low)

-- escape text of a byte, by what the byte is
abbrev by_tests : (backslash feed plain : Bool) → (b : ℕ) → List ℕ
by_tests backslash feed plain b =
    if backslash then 92 ∷ 92 ∷ [] else
    if feed then 92 ∷ 110 ∷ [] else
    if plain then b ∷ [] else
    92 ∷ 120 ∷ hex_digit (b / 16) ∷ hex_digit (b % 16) ∷ []

first_by : (backslash feed plain : Bool) (b : ℕ) (r : List ℕ) → b < 256 → (b == 92) ≡ backslash → (b == 10) ≡ feed → first_spelled (by_tests backslash feed plain b ++ r) ≡ (b, r)
first_by true feed plain b r small e92 e10 = ap (λ n. (n, r)) (sym (eqb-true b 92 e92))
first_by false true plain b r small e92 e10 = ap (λ n. (n, r)) (sym (eqb-true b 10 e10))
first_by false false true b r small e92 e10 = rw e92 refl
first_by false false false b r small e92 e10 = ap (λ n. (n, r)) (two_digits b small)

first_is : (b : ℕ) (r : List ℕ) → b < 256 → first_spelled (escaped_byte b ++ r) ≡ (b, r)
unfolding escaped_byte
first_is b r small = first_by (b == 92) (b == 10) (nat_le 32 b && nat_le b 126) b r small refl refl

byte_unique : (a b : ℕ) (r t : List ℕ) → a < 256 → b < 256 → escaped_byte a ++ r ≡ escaped_byte b ++ t → AreSame a b r t
byte_unique a b r t small_a small_b e =
    let same : (a, r) ≡ (b, t) = sym (first_is a r small_a) ∙ ap first_spelled e ∙ first_is b t small_b in
    (ap (λ p. p.0) same, ap (λ p. p.1) same)

some_by : (backslash feed plain : Bool) (b : ℕ) (r : List ℕ) → by_tests backslash feed plain b ++ r ≡ [] → ⊥
some_by true feed plain b r e = omega (arith, ap length e)
some_by false true plain b r e = omega (arith, ap length e)
some_by false false true b r e = omega (arith, ap length e)
some_by false false false b r e = omega (arith, ap length e)

-- each byte is spelled by something
some_text : (b : ℕ) (r : List ℕ) → escaped_byte b ++ r ≡ [] → ⊥
unfolding escaped_byte
some_text b r e = some_by (b == 92) (b == 10) (nat_le 32 b && nat_le b 126) b r e

escaped_same : (xs ys : List ℕ) → AllByRecursion (λ b. b < 256) xs → AllByRecursion (λ b. b < 256) ys → escaped xs ≡ escaped ys → xs ≡ ys
escaped_same [] [] small_a small_b e = refl
escaped_same [] (b ∷ ys) small_a small_b e = absurd (some_text b (escaped ys) (sym e))
escaped_same (a ∷ xs) [] small_a small_b e = absurd (some_text a (escaped xs) e)
escaped_same (a ∷ xs) (b ∷ ys) small_a small_b e =
    let same = byte_unique a b (escaped xs) (escaped ys) small_a.0 small_b.0 e in
    ap (λ c. c ∷ xs) same.0 ∙ ap (λ cs. b ∷ cs) (escaped_same xs ys small_a.1 small_b.1 same.1)

pub escaped_unique : (xs ys : List ℕ) → AreBytes xs → AreBytes ys → escaped xs ≡ escaped ys → xs ≡ ys
escaped_unique xs ys are_a are_b e = escaped_same xs ys (recursion_from_All (λ b. b < 256) xs are_a.each) (recursion_from_All (λ b. b < 256) ys are_b.each) e

-- no line feed is in escape text
free_by : (backslash feed plain : Bool) (b : ℕ) → (b == 10) ≡ feed → free 10 (by_tests backslash feed plain b) ≡ true
free_by true feed plain b e10 = refl
free_by false true plain b e10 = refl
free_by false false true b e10 = rw e10 refl
free_by false false false b e10 =
    let high = hex_is_not 10 (b / 16) (omega arith) in
    let low = hex_is_not 10 (b % 16) (omega arith) in
    rw (high, low) refl

free_byte : (b : ℕ) → free 10 (escaped_byte b) ≡ true
unfolding escaped_byte
free_byte b = free_by (b == 92) (b == 10) (nat_le 32 b && nat_le b 126) b refl

pub free_escaped : (ys : List ℕ) → free 10 (escaped ys) ≡ true
free_escaped [] = refl
free_escaped (b ∷ ys) = free-append 10 (escaped_byte b) (escaped ys) (free_byte b) (free_escaped ys)
