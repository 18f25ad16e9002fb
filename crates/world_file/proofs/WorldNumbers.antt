-- Numbers in decimal and words in hexadecimal, read and spelled.
use Rattle.std.proofs.Common.{◌≡◌, ℕ, ◌/◌, ◌%◌, ◌^◌, ◌<◌, Bool, true, false, ◌&&◌, nat_lt, List, Option, Some, None, IfSome, IfNone, bytes_eq, decimal, arith, ap, ◌∙◌, sym, refl}
use Rattle.std.specs.Char.{digit_value}
use Rattle.std.specs.Str.Parse.{digits_value}
use Rattle.std.proofs.lemmas.Grind.{common_steps}
use Rattle.std.proofs.lemmas.Option.{cond_some}
use Rattle.std.proofs.lemmas.Slice.Eq.{bytes_eq-Decides}
use Rattle.std.proofs.lemmas.Fmt.{decimal_is_IsNumeral}
use Rattle.ow_base.specs.Lines.{hex_digit, hex8}
use Rattle.world_file.specs.WorldLines.{number_read, number_of, word_of}

pub both_true : (a b : Bool) → (a && b) ≡ true → (a ≡ true) × (b ≡ true)
both_true true b h = (refl, h)
both_true false b h = cc

pub and_true : (a b : Bool) → a ≡ true → b ≡ true → (a && b) ≡ true
and_true a b ha hb = rw (ha, hb) refl

pub same_bytes : (a b : List ℕ) → bytes_eq a b ≡ true → a ≡ b
same_bytes a b h = (bytes_eq-Decides a b).0 h

pub bytes_eq_self : (a : List ℕ) → bytes_eq a a ≡ true
bytes_eq_self a = (bytes_eq-Decides a a).1 refl

number_reads : (value : ℕ) (spelling text : List ℕ) (n : ℕ) → number_read value spelling text ≡ Some n → (text ≡ spelling) × (value ≡ n) × (value < 2 ^ 32)
number_reads value spelling text n h =
    let some = cond_some (nat_lt value (2 ^ 32) && bytes_eq text spelling) value n h in
    let parts = both_true (nat_lt value (2 ^ 32)) (bytes_eq text spelling) some.0 in
    (same_bytes text spelling parts.1, some.1, grind (arith, common_steps, parts.0))

number_accepts : (value n : ℕ) (text : List ℕ) → value ≡ n → n < 2 ^ 32 → (spelling : ℕ → List ℕ) → text ≡ spelling n → number_read value (spelling value) text ≡ Some n
number_accepts value n text e small spelling t =
    let below : nat_lt n (2 ^ 32) ≡ true = grind (arith, common_steps) in
    let same = bytes_eq_self (spelling n) in
    rw (e, t, below, same) refl

-- a number that is read is spelled so
pub number_of_reads : (text : List ℕ) (n : ℕ) → number_of text ≡ Some n → (text ≡ decimal n) × (n < 2 ^ 32)
unfolding number_of
number_of_reads text n h =
    let is = number_reads (digits_value 10 text) (decimal (digits_value 10 text)) text n h in
    (is.0 ∙ ap decimal is.1, omega (arith, is.1, is.2))

-- a number is read from its spelling
pub number_of_accepts : (n : ℕ) → n < 2 ^ 32 → number_of (decimal n) ≡ Some n
unfolding number_of
number_of_accepts n small = number_accepts (digits_value 10 (decimal n)) n (decimal n) (decimal_is_IsNumeral n (omega arith)).1 small decimal refl

missing : (o : Option ℕ) → ((n : ℕ) → o ≡ Some n → ⊥) → None ≡ o
missing None h = refl
missing (Some n) h = absurd (h n refl)

-- what a reader of exact spellings returned
pub number_exact : (text : List ℕ) (r : Option ℕ) → IfSome r (λ n. n < 2 ^ 32) → IfSome r (λ n. text ≡ decimal n) → IfNone r ((n : ℕ) → n < 2 ^ 32 → text ≡ decimal n → ⊥) → r ≡ number_of text
number_exact text (Some n) small found none = sym (ap number_of found ∙ number_of_accepts n small)
number_exact text None small found none = missing (number_of text) (λ n h. let is = number_of_reads text n h in none n is.1 is.0)

pub digit : (d : ℕ) → d < 16 → digit_value (hex_digit d) ≡ d
digit d h = grind (arith, common_steps)

-- a word's digits are worth the word
pub value_of_word : (w : ℕ) → w < 2 ^ 32 → digits_value 16 (hex8 w) ≡ w
unfolding hex8
value_of_word w small =
    let d7 = digit (w / 16 ^ 7 % 16) (omega arith) in
    let d6 = digit (w / 16 ^ 6 % 16) (omega arith) in
    let d5 = digit (w / 16 ^ 5 % 16) (omega arith) in
    let d4 = digit (w / 16 ^ 4 % 16) (omega arith) in
    let d3 = digit (w / 16 ^ 3 % 16) (omega arith) in
    let d2 = digit (w / 16 ^ 2 % 16) (omega arith) in
    let d1 = digit (w / 16 ^ 1 % 16) (omega arith) in
    let d0 = digit (w / 16 ^ 0 % 16) (omega arith) in
    rw (d7, d6, d5, d4, d3, d2, d1, d0) (omega arith)

pub word_of_reads : (text : List ℕ) (w : ℕ) → word_of text ≡ Some w → (text ≡ hex8 w) × (w < 2 ^ 32)
unfolding word_of
word_of_reads text w h =
    let is = number_reads (digits_value 16 text) (hex8 (digits_value 16 text)) text w h in
    (is.0 ∙ ap hex8 is.1, omega (arith, is.1, is.2))

pub word_of_accepts : (w : ℕ) → w < 2 ^ 32 → word_of (hex8 w) ≡ Some w
unfolding word_of
word_of_accepts w small = number_accepts (digits_value 16 (hex8 w)) w (hex8 w) (value_of_word w small) small hex8 refl

pub word_exact : (text : List ℕ) (r : Option ℕ) → IfSome r (λ w. w < 2 ^ 32) → IfSome r (λ w. text ≡ hex8 w) → IfNone r ((w : ℕ) → w < 2 ^ 32 → text ≡ hex8 w → ⊥) → r ≡ word_of text
word_exact text (Some w) small found none = sym (ap word_of found ∙ word_of_accepts w small)
word_exact text None small found none = missing (word_of text) (λ w h. let is = word_of_reads text w h in none w is.1 is.0)
