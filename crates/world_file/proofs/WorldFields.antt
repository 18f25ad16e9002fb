-- Numbers in decimal, words in hexadecimal and names, read and spelled.
use Rattle.std.proofs.Common.{◌≡◌, ℕ, ◌+◌, ◌/◌, ◌%◌, ◌^◌, ◌<◌, ◌≤◌, Bool, true, false, ◌&&◌, nat_lt, nat_le, ◌==◌, List, [], ◌∷◌, length, decimal, arith, ap, refl, if◌then◌else◌}
use Rattle.std.specs.Char.{digit_value}
use Rattle.std.specs.Str.Parse.{AllDigits}
use Rattle.std.specs.List.{AllByRecursion, list_all}
use Rattle.std.proofs.lemmas.Grind.{common_steps}
use Rattle.std.proofs.lemmas.List.Elements.{All-from_recursion, recursion_from_All}
use Rattle.std.proofs.lemmas.Fmt.{decimal_is_IsNumeral}
use Rattle.ow_base.specs.Lines.{hex_digit, hex8}
use Rattle.ow_base.specs.World.{IsName}
use Rattle.world_file.specs.WorldLines.{is_visible, is_name}
use Rattle.world_file.proofs.WorldPieces.{free, free_above, other}
use Rattle.world_file.proofs.WorldNumbers.{both_true, and_true}

pub le_true : (a b : ℕ) → nat_le a b ≡ true → a ≤ b
le_true a b h = grind (arith, common_steps)

pub le_is_true : (a b : ℕ) → a ≤ b → nat_le a b ≡ true
le_is_true a b h = grind (arith, common_steps)

pub le_false : (a b : ℕ) → nat_le a b ≡ false → b < a
le_false a b h = grind (arith, common_steps)

pub le_is_false : (a b : ℕ) → b < a → nat_le a b ≡ false
le_is_false a b h = grind (arith, common_steps)

pub lt_false : (a b : ℕ) → nat_lt a b ≡ false → b ≤ a
lt_false a b h = grind (arith, common_steps)

pub lt_is_false : (a b : ℕ) → b ≤ a → nat_lt a b ≡ false
lt_is_false a b h = grind (arith, common_steps)

pub lt_true : (a b : ℕ) → nat_lt a b ≡ true → a < b
lt_true a b h = grind (arith, common_steps)

pub lt_is_true : (a b : ℕ) → a < b → nat_lt a b ≡ true
lt_is_true a b h = grind (arith, common_steps)

-- no separator is in digits
free_digits : (s : ℕ) (ds : List ℕ) → 10 ≤ digit_value s → AllDigits 10 ds → free s ds ≡ true
free_digits s [] above all = refl
free_digits s (d ∷ ds) above all =
    let e : (d == s) ≡ false = other d s (λ e. omega (arith, all.0, ap digit_value e)) in
    rw e (free_digits s ds above all.1)

pub free_decimal : (s : ℕ) (n : ℕ) → 10 ≤ digit_value s → n < 2 ^ 32 → free s (decimal n) ≡ true
free_decimal s n above small = free_digits s (decimal n) above (decimal_is_IsNumeral n (omega arith)).0.1

pub hex_is_not : (s d : ℕ) → s < 48 → (hex_digit d == s) ≡ false
hex_is_not s d small = other (hex_digit d) s (λ e. high d (nat_lt d 10) e)
  where
    high : (d : ℕ) (low : Bool) → (if low then 48 + d else 87 + d) ≡ s → ⊥
    high d true e = omega arith
    high d false e = omega arith

pub free_hex8 : (s w : ℕ) → s < 48 → free s (hex8 w) ≡ true
unfolding hex8
free_hex8 s w small =
    let d7 = hex_is_not s (w / 16 ^ 7 % 16) small in
    let d6 = hex_is_not s (w / 16 ^ 6 % 16) small in
    let d5 = hex_is_not s (w / 16 ^ 5 % 16) small in
    let d4 = hex_is_not s (w / 16 ^ 4 % 16) small in
    let d3 = hex_is_not s (w / 16 ^ 3 % 16) small in
    let d2 = hex_is_not s (w / 16 ^ 2 % 16) small in
    let d1 = hex_is_not s (w / 16 ^ 1 % 16) small in
    let d0 = hex_is_not s (w / 16 ^ 0 % 16) small in
    rw (d7, d6, d5, d4, d3, d2, d1, d0) refl

-- names
visible_reads : (bs : List ℕ) → list_all is_visible bs ≡ true → AllByRecursion (λ b. 33 ≤ b) bs × AllByRecursion (λ b. b ≤ 126) bs
visible_reads [] h = (tt, tt)
visible_reads (b ∷ bs) h =
    let parts = both_true (is_visible b) (list_all is_visible bs) h in
    let here = both_true (nat_le 33 b) (nat_le b 126) parts.0 in
    let rest = visible_reads bs parts.1 in
    ((le_true 33 b here.0, rest.0), (le_true b 126 here.1, rest.1))

visible_accepts : (bs : List ℕ) → AllByRecursion (λ b. 33 ≤ b) bs → AllByRecursion (λ b. b ≤ 126) bs → list_all is_visible bs ≡ true
visible_accepts [] low high = refl
visible_accepts (b ∷ bs) low high =
    and_true (is_visible b) (list_all is_visible bs) (and_true (nat_le 33 b) (nat_le b 126) (le_is_true 33 b low.0) (le_is_true b 126 high.0)) (visible_accepts bs low.1 high.1)

pub name_reads : (name : List ℕ) → is_name name ≡ true → IsName name
unfolding is_name
name_reads name h =
    let parts = both_true (nat_le 1 (length name) && nat_le (length name) 24) (list_all is_visible name) h in
    let sizes = both_true (nat_le 1 (length name)) (nat_le (length name) 24) parts.0 in
    let bytes = visible_reads name parts.1 in
    record {
      shortest = le_true 1 (length name) sizes.0;
      longest = le_true (length name) 24 sizes.1;
      lowest = All-from_recursion (λ b. 33 ≤ b) name bytes.0;
      highest = All-from_recursion (λ b. b ≤ 126) name bytes.1;
    }

pub name_accepts : (name : List ℕ) → IsName name → is_name name ≡ true
unfolding is_name
name_accepts name is =
    and_true (nat_le 1 (length name) && nat_le (length name) 24) (list_all is_visible name)
    (and_true (nat_le 1 (length name)) (nat_le (length name) 24) (le_is_true 1 (length name) is.shortest) (le_is_true (length name) 24 is.longest))
    (visible_accepts name (recursion_from_All (λ b. 33 ≤ b) name is.lowest) (recursion_from_All (λ b. b ≤ 126) name is.highest))

pub free_name : (s : ℕ) (name : List ℕ) → s < 33 → IsName name → free s name ≡ true
free_name s name small is = free_above s name small (recursion_from_All (λ b. 33 ≤ b) name is.lowest)
