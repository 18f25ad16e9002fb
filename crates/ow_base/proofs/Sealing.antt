-- A change of one word of a sealed record breaks its seal.
use Rattle.std.proofs.Common.{◌≡◌, ◌≢◌, ℕ, zero, suc, ◌+◌, ◌-◌, ◌*◌, ◌/◌, ◌%◌, ◌^◌, ◌<◌, ◌≤◌, ◌∙◌, sym, ap, arith, List, [], ◌∷◌, length, slice_index, slice_set, take, drop, get_or, set, bit_xor, ◌⊎◌, inl, inr}
use Rattle.std.proofs.lemmas.List.{length-set, get_or-set_same, get_or-set_other, drop-set-lt, drop-set-add, take-set-le}
use Rattle.std.proofs.lemmas.Bool.{cases_eq}
use Rattle.std.proofs.Math.Seq.{take-set-lt}
use Rattle.std.proofs.lemmas.Nat.{or_shifted, xor_lt, xor_comm}
use Rattle.std.proofs.lemmas.Grind.{common_steps}
use Rattle.std.specs.Int.{rotate_left, w32}
use Rattle.std.specs.Int.Bits.{xor_assoc, xor_self, xor_zero_r}
use Rattle.ow_base.specs.Seals.{seal_from, AreWords, IsSealed}

-- a word turned left by five bits, as a number
turned : (a : ℕ) → a < 2 ^ 32 → rotate_left w32 a 5 ≡ a % 2 ^ 27 * 2 ^ 5 + a / 2 ^ 27
turned a small =
    let high : a * 2 ^ 5 % 2 ^ 32 ≡ a % 2 ^ 27 * 2 ^ 5 = omega arith in
    rw high (or_shifted (a % 2 ^ 27) 5 (a / 2 ^ 27) (omega arith))

-- turning loses nothing, and leaves a word
turned_same : (a b : ℕ) → a < 2 ^ 32 → b < 2 ^ 32 → rotate_left w32 a 5 ≡ rotate_left w32 b 5 → a ≡ b
turned_same a b small smaller same = omega (arith, turned a small, turned b smaller)

turned_small : (a : ℕ) → a < 2 ^ 32 → rotate_left w32 a 5 < 2 ^ 32
turned_small a small = omega (arith, turned a small)

-- joining to a word loses nothing
joined_twice : (a word : ℕ) → bit_xor (bit_xor a word) word ≡ a
joined_twice a word = xor_assoc a word word ∙ ap (bit_xor a) (xor_self word) ∙ xor_zero_r a

joined_left : (a b word : ℕ) → bit_xor a word ≡ bit_xor b word → a ≡ b
joined_left a b word same =
    sym (joined_twice a word) ∙ ap (λ n. bit_xor n word) same ∙ joined_twice b word

joined_right : (begun a b : ℕ) → bit_xor begun a ≡ bit_xor begun b → a ≡ b
joined_right begun a b same = joined_left a b begun (xor_comm a begun ∙ same ∙ xor_comm begun b)

-- one step of the seal
step_small : (begun word : ℕ) → begun < 2 ^ 32 → word < 2 ^ 32 → bit_xor (rotate_left w32 begun 5) word < 2 ^ 32
step_small begun word small fits = xor_lt 32 (rotate_left w32 begun 5) word (turned_small begun small) fits

-- the seal of words that fit, begun differently, differs
pub one_beginning : (words : List ℕ) (a b : ℕ) → AreWords words → a < 2 ^ 32 → b < 2 ^ 32
    → seal_from a words ≡ seal_from b words → a ≡ b
unfolding seal_from
one_beginning [] a b fits small smaller same = same
one_beginning (word ∷ words) a b fits small smaller same =
    turned_same a b small smaller
    (joined_left (rotate_left w32 a 5) (rotate_left w32 b 5) word
    (one_beginning words _ _ (λ k. fits (suc k)) (step_small a word small (fits 0)) (step_small b word smaller (fits 0)) same))

-- and so does that of words of which one is changed
pub one_within : (words : List ℕ) (begun i value : ℕ) → AreWords words → begun < 2 ^ 32 → value < 2 ^ 32 → i < length words
    → seal_from begun words ≡ seal_from begun (set words i value) → value ≡ get_or words i 0
unfolding seal_from
one_within [] begun i value fits small smaller within same = absurd (omega arith)
one_within (word ∷ words) begun zero value fits small smaller within same =
    sym (joined_right (rotate_left w32 begun 5) word value
    (one_beginning words _ _ (λ k. fits (suc k)) (step_small begun word small (fits 0)) (step_small begun value small smaller) same))
one_within (word ∷ words) begun (suc i) value fits small smaller within same =
    one_within words _ i value (λ k. fits (suc k)) (step_small begun word small (fits 0)) smaller (omega arith) same

-- the words that a seal takes are the record's, and there are two fewer of them
body_word : (words : List ℕ) (i : ℕ) → i < length words - 2 → get_or (take (length words - 2) (drop 1 words)) i 0 ≡ get_or words (1 + i) 0
body_word words i within = grind (arith, common_steps)

body_fits : (words : List ℕ) → AreWords words → AreWords (take (length words - 2) (drop 1 words))
body_fits words fits k = grind (arith, common_steps, fits (1 + k))

body_long : (words : List ℕ) → length (take (length words - 2) (drop 1 words)) ≡ length words - 2
body_long words = grind (arith, common_steps)

body_of_last : (words : List ℕ) (i value : ℕ) → i ≡ length words - 2
    → take (length words - 2) (drop 1 (set words (1 + i) value)) ≡ take (length words - 2) (drop 1 words)
body_of_last words i value last =
    ap (take (length words - 2)) (drop-set-add 1 words i value) ∙ take-set-le (length words - 2) (drop 1 words) i value (omega arith)

body_of_between : (words : List ℕ) (i value : ℕ) → i < length words - 2
    → take (length words - 2) (drop 1 (set words (1 + i) value)) ≡ set (take (length words - 2) (drop 1 words)) i value
body_of_between words i value within =
    ap (take (length words - 2)) (drop-set-add 1 words i value) ∙ take-set-lt (length words - 2) (drop 1 words) i value within

-- the first word, the last, and one between them
first_changed : (words : List ℕ) (value : ℕ) → AreWords words → 2 ≤ length words → value < 2 ^ 32
    → IsSealed words → IsSealed (set words 0 value) → value ≡ get_or words 0 0
first_changed words value fits long small before after =
    let same_length = length-set words 0 value in
    let first = get_or-set_same words 0 value 0 (omega arith) in
    let last = get_or-set_other words 0 (length words - 1) value 0 (omega arith) in
    let behind = drop-set-lt 1 words 0 value (omega arith) in
    let sealed_after = rw (same_length, first, last, behind) at after in
    one_beginning (take (length words - 2) (drop 1 words)) value (get_or words 0 0) (body_fits words fits) small (fits 0) (sym sealed_after ∙ before)

last_changed : (words : List ℕ) (i value : ℕ) → 2 ≤ length words → i ≡ length words - 2
    → IsSealed words → IsSealed (set words (1 + i) value) → value ≡ get_or words (1 + i) 0
last_changed words i value long last before after =
    let same_length = length-set words (1 + i) value in
    let first = get_or-set_other words (1 + i) 0 value 0 (omega arith) in
    let place : length words - 1 ≡ 1 + i = omega arith in
    let at_end : get_or (set words (1 + i) value) (length words - 1) 0 ≡ value = rw place (get_or-set_same words (1 + i) value 0 (omega arith)) in
    let body = body_of_last words i value last in
    let sealed_after = rw (same_length, first, at_end, body) at after in
    sealed_after ∙ sym before ∙ ap (λ n. get_or words n 0) place

between_changed : (words : List ℕ) (i value : ℕ) → AreWords words → i < length words - 2 → value < 2 ^ 32
    → IsSealed words → IsSealed (set words (1 + i) value) → value ≡ get_or words (1 + i) 0
between_changed words i value fits within small before after =
    let same_length = length-set words (1 + i) value in
    let first = get_or-set_other words (1 + i) 0 value 0 (omega arith) in
    let last = get_or-set_other words (1 + i) (length words - 1) value 0 (omega arith) in
    let body = body_of_between words i value within in
    let sealed_after = rw (same_length, first, last, body) at after in
    one_within (take (length words - 2) (drop 1 words)) (get_or words 0 0) i value (body_fits words fits) (fits 0) small
    (rw body_long within) (sym before ∙ sealed_after)
    ∙ body_word words i within

later_changed : (words : List ℕ) (i value : ℕ) → AreWords words → 2 ≤ length words → 1 + i < length words → value < 2 ^ 32
    → (i ≡ length words - 2) ⊎ (i ≡ length words - 2 → ⊥)
    → IsSealed words → IsSealed (set words (1 + i) value) → value ≡ get_or words (1 + i) 0
later_changed words i value fits long within small (inl last) before after = last_changed words i value long last before after
later_changed words i value fits long within small (inr other) before after =
    between_changed words i value fits (omega arith) small before after

-- where a record with one word set is still sealed, the word is the old one
pub one_changed : (words : List ℕ) (i value : ℕ) → AreWords words → 2 ≤ length words → i < length words → value < 2 ^ 32
    → IsSealed words → IsSealed (set words i value) → value ≡ get_or words i 0
one_changed words zero value fits long within small before after = first_changed words value fits long small before after
one_changed words (suc i) value fits long within small before after =
    let place : suc i ≡ 1 + i = omega arith in
    later_changed words i value fits long (omega arith) small (cases_eq i (length words - 2)) before (rw place at after) ∙ ap (λ n. get_or words n 0) (sym place)

-- so a record with one word changed to another is sealed no more
pub broken : (words : List ℕ) (i value : ℕ) → AreWords words → 2 ≤ length words → i < length words → value < 2 ^ 32
    → value ≢ slice_index words i → IsSealed words → IsSealed (slice_set words i value) → ⊥
broken words i value fits long within small other before after =
    other (one_changed words i value fits long within small before after)
