-- Lemmas on records of any kind.
use Rattle.std.proofs.Common.{◌≡◌, ℕ, ◌+◌, ◌-◌, ◌<◌, ◌≤◌, arith, List, length, slice_index, take, drop, replicate, get_or, ap, sym, ◌∙◌, inl, inr}
use Rattle.std.proofs.lemmas.Grind.{common_steps}
use Rattle.std.proofs.lemmas.List.{same_lists, get_or_default, get_or-replicate}
use Rattle.std.proofs.lemmas.Bool.{cases_eq, cases_lt}
use Rattle.ow_base.specs.Seals.{IsSealed, seal_of}
pub use Rattle.ow_base.proofs.Sealing.{broken}
use Rattle.record_layouts.specs.Spelling.{AreZero}

-- a row of zeros has 0 at each of its places
none_there : (n k : ℕ) → k < n → ◌≡◌ {A = ℕ} (get_or (replicate n 0) k 0) 0
none_there n k less = get_or-replicate n k 0 0 less

-- words that are computed to be 0
pub zeros : (words : List ℕ) (first end : ℕ) → take (end - first) (drop first words) ≡ replicate (end - first) 0 → AreZero words first end
zeros words first end same k from to =
    let there : get_or (take (end - first) (drop first words)) (k - first) 0 ≡ get_or (replicate (end - first) 0) (k - first) 0 = ap (λ ws. get_or ws (k - first) 0) same in
    let here : get_or (take (end - first) (drop first words)) (k - first) 0 ≡ get_or words k 0 = grind (arith, common_steps) in
    sym here ∙ there ∙ none_there (end - first) (k - first) (omega arith)

-- what holds of each word of a range holds there of the record, and the other way round
pub zeros_of_range : (words : List ℕ) (first end : ℕ) → first ≤ end → end ≤ length words
    → ((k : ℕ) → k < length (take (end - first) (drop first words)) → get_or (take (end - first) (drop first words)) k 0 ≡ 0) → AreZero words first end
zeros_of_range words first end order within each k from to =
    let here : get_or (take (end - first) (drop first words)) (k - first) 0 ≡ get_or words k 0 = grind (arith, common_steps) in
    sym here ∙ each (k - first) (grind (arith, common_steps))

pub range_of_zeros : (words : List ℕ) (first end : ℕ) → first ≤ end → end ≤ length words → AreZero words first end
    → (k : ℕ) → k < length (take (end - first) (drop first words)) → get_or (take (end - first) (drop first words)) k 0 ≡ 0
range_of_zeros words first end order within all k small =
    let less : k < end - first = grind (arith, common_steps) in
    let here : get_or (take (end - first) (drop first words)) k 0 ≡ get_or words (first + k) 0 = grind (arith, common_steps) in
    here ∙ all (first + k) (omega arith) (omega arith)

-- two records that have one word at each place below this one
pub record Agree (some others : List ℕ) (end : ℕ) : Type 0 where
  pub at : (k : ℕ) → k < end → slice_index some k ≡ slice_index others k

pub nothing : (some others : List ℕ) → Agree some others 0
nothing some others = record { at = λ k small. absurd (omega arith) }

-- one more word
pub word : {some others : List ℕ} {value : ℕ} (end : ℕ) → Agree some others end → slice_index some end ≡ value → slice_index others end ≡ value
    → Agree some others (end + 1)
word end before here there = record {
  at = λ k small. elim (cases_eq k end) [ inl same ↦ rw same (here ∙ sym there) | inr other ↦ before.at k (omega arith) ];
}

-- more words that are 0
pub gap : {some others : List ℕ} {first : ℕ} (end : ℕ) → Agree some others first → AreZero some first end → AreZero others first end
    → Agree some others end
gap {first = first} end before here there = record {
  at = λ k small. elim (cases_lt k first) [ inl less ↦ before.at k less | inr more ↦ here k more small ∙ sym (there k more small) ];
}

in_block : (words : List ℕ) (first k count : ℕ) → first ≤ k → k < first + count → get_or words k 0 ≡ get_or (take count (drop first words)) (k - first) 0
in_block words first k count from to = grind (arith, common_steps)

-- more words that are one list
pub block : {some others xs : List ℕ} {first : ℕ} (count : ℕ) → Agree some others first
    → take count (drop first some) ≡ xs → take count (drop first others) ≡ xs → Agree some others (first + count)
block {some = some} {others = others} {first = first} count before here there = record {
  at = λ k small. elim (cases_lt k first) [
    | inl less ↦ before.at k less
    | inr more ↦ in_block some first k count more small ∙ ap (λ ws. get_or ws (k - first) 0) (here ∙ sym there) ∙ sym (in_block others first k count more small)
  ];
}

-- one place of two lists within them, whatever stands for a place behind them
place_same : (some others : List ℕ) (k d : ℕ) → k < length some → k < length others → slice_index some k ≡ slice_index others k → get_or some k d ≡ get_or others k d
place_same some others k d less less_too same = get_or_default some k d 0 less ∙ same ∙ get_or_default others k 0 d less_too

body_word : (words : List ℕ) (count k : ℕ) → k < count → get_or (take count (drop 1 words)) k 0 ≡ get_or words (1 + k) 0
body_word words count k less = grind (arith, common_steps)

body_long : (words : List ℕ) (count : ℕ) → count + 1 ≤ length words → length (take count (drop 1 words)) ≡ count
body_long words count long = grind (arith, common_steps)

body_same : (some others : List ℕ) (count : ℕ) → Agree some others (count + 1) → count + 1 ≤ length some → count + 1 ≤ length others
    → take count (drop 1 some) ≡ take count (drop 1 others)
body_same some others count same long long_too =
    let here = body_long some count long in
    let there = body_long others count long_too in
    same_lists (take count (drop 1 some)) (take count (drop 1 others)) (here ∙ sym there)
    (λ k d less. place_same (take count (drop 1 some)) (take count (drop 1 others)) k d less (omega arith)
    (body_word some count k (omega arith) ∙ same.at (1 + k) (omega arith) ∙ sym (body_word others count k (omega arith))))

seal_same : (some others : List ℕ) (end : ℕ) → Agree some others end → 1 ≤ end → length some ≡ end + 1 → length others ≡ end + 1
    → seal_of some ≡ seal_of others
seal_same some others end same positive long long_too =
    let first = same.at 0 positive in
    let count : length some - 2 ≡ end - 1 = omega arith in
    let count_too : length others - 2 ≡ end - 1 = omega arith in
    let before : Agree some others (end - 1 + 1) = (let e : end - 1 + 1 ≡ end = omega arith in rw e same) in
    let body = body_same some others (end - 1) before (omega arith) (omega arith) in
    rw (count, count_too, first, body)

-- two records that agree up to their seals are one
pub one_record : (some others : List ℕ) (end : ℕ) → Agree some others end → 1 ≤ end → length some ≡ end + 1 → length others ≡ end + 1
    → IsSealed some → IsSealed others → some ≡ others
one_record some others end same positive long long_too seal seal_too =
    let place : length some - 1 ≡ end = omega arith in
    let place_too : length others - 1 ≡ end = omega arith in
    let here = rw place at seal in
    let there = rw place_too at seal_too in
    let last : slice_index some end ≡ slice_index others end = here ∙ seal_same some others end same positive long long_too ∙ sym there in
    same_lists some others (long ∙ sym long_too)
    (λ k d less. place_same some others k d less (omega arith)
    (elim (cases_eq k end) [ inl is ↦ rw is last | inr other ↦ same.at k (omega arith) ]))
