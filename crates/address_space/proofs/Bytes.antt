-- The bytes of a word, and bytes that are written one after the other.
use Rattle.std.proofs.Common.{◌≡◌, ℕ, zero, suc, ◌+◌, ◌-◌, ◌<◌, ◌≤◌, if◌then◌else◌, List, [], ◌++◌, length, get_or, take, drop, w32, refl, sym, ap, ◌∙◌, inl, inr, arith, take-add, length-append}
use Rattle.std.specs.Int.{to_le_bytes, from_le_bytes}
use Rattle.std.proofs.lemmas.Bool.{cases_Bool, cases_lt}
use Rattle.std.proofs.lemmas.Bool.Decides.{nat_tests}
use Rattle.std.proofs.lemmas.Grind.{common_steps}
use Rattle.std.proofs.lemmas.List.{get_or_append_left, get_or-append_right, get_or_past, take-take}
use Rattle.std.proofs.lemmas.Nat.{le_bytes_4}
use borrow.Rule.Slice.PartMut.{put_mid}
use Rattle.ow_base.specs.Pages.{Pages}
use Rattle.ow_base.specs.Sv32.{byte_of}
use Rattle.record_layouts.specs.Unix.State.{is_within}
use Rattle.record_layouts.specs.Unix.Spaces.{with_bytes}
use Rattle.sv32_tables.proofs.Spaces.{pages_ext}

-- the bytes of a word are the list of them
pub byte_listed : (word k : ℕ) → k < 4 → get_or (to_le_bytes w32 word) k 0 ≡ byte_of word k
byte_listed word zero small = omega arith
byte_listed word (suc zero) small = omega arith
byte_listed word (suc (suc zero)) small = omega arith
byte_listed word (suc (suc (suc zero))) small = omega arith
byte_listed word (suc (suc (suc (suc k)))) small = absurd (omega arith)

-- an item of a list into which others are written
item_written : (first count : ℕ) (xs ys : List ℕ) (k : ℕ) → count ≡ length ys → first + count ≤ length xs → k < length xs
    → get_or (put_mid first count xs ys) k 0 ≡ (if is_within first (length ys) k then get_or ys (k - first) 0 else get_or xs k 0)
item_written first count xs ys k long within small = grind (arith, nat_tests, common_steps)

-- the word that is made of its bytes once others are written into them
module _ (word first : ℕ) (bytes : List ℕ) (within : first + length bytes ≤ 4) (fits : (i : ℕ) → get_or bytes i 0 < 256) where
  abbrev pub all : List ℕ
  all = put_mid first (first + length bytes - first) (to_le_bytes w32 word) bytes

  byte_written : (k : ℕ) → k < 4 → get_or all k 0 ≡ (if is_within first (length bytes) k then get_or bytes (k - first) 0 else byte_of word k)
  byte_written k small =
      item_written first (first + length bytes - first) (to_le_bytes w32 word) bytes k (omega arith) (omega arith) small
      ∙ ap (λ byte. if is_within first (length bytes) k then get_or bytes (k - first) 0 else byte) (byte_listed word k small)

  four : length all ≡ 4
  four = grind (arith, common_steps)

  each_fits : (i : ℕ) → get_or all i 0 < 256
  each_fits i = elim (cases_lt i 4) [
    | inl small ↦ rw (byte_written i small) (elim (cases_Bool (is_within first (length bytes) i)) [
      | inl new ↦ rw new (fits (i - first))
      | inr old ↦ rw old (omega arith)
    ])
    | inr past ↦ rw (get_or_past all i 0 (omega (arith, four))) (omega arith)
  ]

  pub word_written : (result : ℕ) → result ≡ from_le_bytes w32 all → (k : ℕ) → k < 4
      → byte_of result k ≡ (if is_within first (length bytes) k then get_or bytes (k - first) 0 else byte_of word k)
  word_written result made k small =
      sym (byte_listed result k small) ∙ ap (λ xs. get_or xs k 0) (le_bytes_4 all result four each_fits made) ∙ byte_written k small

-- bytes behind others are written with them
written_bytes : (bytes : ℕ → ℕ) (address : ℕ) (xs ys : List ℕ) (a : ℕ)
    → (if is_within (address + length xs) (length ys) a then get_or ys (a - (address + length xs)) 0
    else if is_within address (length xs) a then get_or xs (a - address) 0 else bytes a)
    ≡ (if is_within address (length (xs ++ ys)) a then get_or (xs ++ ys) (a - address) 0 else bytes a)
written_bytes bytes address xs ys a =
    let long : length (xs ++ ys) ≡ length xs + length ys = length-append xs ys in
    elim (cases_lt a address) [
      | inl before ↦ grind (arith, nat_tests)
      | inr from ↦ elim (cases_lt a (address + length xs)) [
        | inl first ↦ grind (arith, nat_tests, get_or_append_left xs ys 0 (a - address) (omega arith))
        | inr behind ↦
            let place : (a - address) - length xs ≡ a - (address + length xs) = omega arith in
            let second = get_or-append_right xs ys (length xs) (a - address) 0 refl (omega arith) in
            grind (arith, nat_tests, second, place)
      ]
    ]

-- so pages with bytes written, and others behind them, are those with both written
pub with_bytes_on : (pages : Pages) (address : ℕ) (xs ys : List ℕ)
    → with_bytes (with_bytes pages address xs) (address + length xs) ys ≡ with_bytes pages address (xs ++ ys)
unfolding with_bytes
with_bytes_on pages address xs ys = pages_ext _ _ (λ page. refl) (λ a. written_bytes pages.bytes address xs ys a)

-- no bytes are written
pub with_no_bytes : (pages : Pages) (address : ℕ) → with_bytes pages address [] ≡ pages
unfolding with_bytes
with_no_bytes pages address = pages_ext _ _ (λ page. refl) (λ a. grind (arith, nat_tests))

-- the bytes before a place, and so many from it on
pub taken_on : (bytes : List ℕ) (done end : ℕ) → done ≤ end → take done bytes ++ take (end - done) (drop done bytes) ≡ take end bytes
taken_on bytes done end before =
    let whole : done + (end - done) ≡ end = omega arith in
    sym (take-add done (end - done) bytes) ∙ ap (λ n. take n bytes) whole

-- the first of them
pub taken_partly : (bytes : List ℕ) (done end count : ℕ) → done ≤ end → count ≤ end - done
    → take done bytes ++ take count (take (end - done) (drop done bytes)) ≡ take (done + count) bytes
taken_partly bytes done end count before few =
    ap (λ xs. take done bytes ++ xs) (take-take count (end - done) (drop done bytes) few) ∙ sym (take-add done count bytes)
