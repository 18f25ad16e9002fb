-- Lists in parts, and words behind which their seal stands.
use Rattle.std.proofs.Common.{◌≡◌, ℕ, ◌+◌, ◌-◌, ◌∙◌, sym, ap, refl, arith, List, [], ◌∷◌, ◌++◌, length, length-append, take, drop, get_or, set}
use Rattle.std.proofs.lemmas.List.{take_all, take_at, take_more, take-append-drop, take-take, drop-take, get_or_at, set_at}
use Rattle.ow_base.specs.Seals.{IsSealed, seal_from, seal_of, sealed}

two_parts : (xs : List ℕ) (m n : ℕ) → take (m + n) xs ≡ take m xs ++ take n (drop m xs)
two_parts xs m n =
    let front : take m (take (m + n) xs) ≡ take m xs = take-take m (m + n) xs (omega arith) in
    let behind : drop m (take (m + n) xs) ≡ take n (drop m xs) = drop-take m n xs in
    sym (take-append-drop m (take (m + n) xs)) ∙ rw (front, behind) refl

-- a list is its parts and its last word
pub parts : (xs : List ℕ) (m n : ℕ) → length xs ≡ m + n + 1 → xs ≡ (take m xs ++ take n (drop m xs)) ++ get_or xs (m + n) 0 ∷ []
parts xs m n long =
    sym (take_all (m + n + 1) xs (omega arith)) ∙ take_more xs (m + n) 0 (omega arith)
    ∙ ap (λ ws. ws ++ get_or xs (m + n) 0 ∷ []) (two_parts xs m n)

-- the last of some words, and the seal of those before it
module _ (kind : ℕ) (words : List ℕ) (last : ℕ) where
  end : length (kind ∷ (words ++ last ∷ [])) - 1 ≡ length words + 1
  end = omega (arith, length-append words (last ∷ []))

  last_word : get_or (kind ∷ (words ++ last ∷ [])) (length (kind ∷ (words ++ last ∷ [])) - 1) 0 ≡ last
  last_word = rw end (get_or_at (kind ∷ words) last [] 0 (length words + 1) (omega arith))

  seal_before : seal_of (kind ∷ (words ++ last ∷ [])) ≡ seal_from kind words
  seal_before =
      let count : length (kind ∷ (words ++ last ∷ [])) - 2 ≡ length words = omega (arith, length-append words (last ∷ [])) in
      ap (λ n. seal_from kind (take n (words ++ last ∷ []))) count ∙ ap (seal_from kind) (take_at words (last ∷ []) (length words) refl)

  -- sealed words end with it
  pub seal_last : IsSealed (kind ∷ (words ++ last ∷ [])) → last ≡ seal_from kind words
  seal_last is = sym last_word ∙ is ∙ seal_before

  -- and it is what the seal puts there
  pub seal_put : sealed (kind ∷ (words ++ last ∷ [])) ≡ kind ∷ (words ++ seal_from kind words ∷ [])
  seal_put =
      ap (λ n. set (kind ∷ (words ++ last ∷ [])) n (seal_of (kind ∷ (words ++ last ∷ [])))) end
      ∙ set_at (kind ∷ words) last [] (seal_of (kind ∷ (words ++ last ∷ []))) (length words + 1) (omega arith)
      ∙ ap (λ s. kind ∷ (words ++ s ∷ [])) seal_before

-- words with their seal behind them are sealed
pub seal_stands : (kind : ℕ) (words : List ℕ) → IsSealed (kind ∷ (words ++ seal_from kind words ∷ []))
seal_stands kind words = last_word kind words (seal_from kind words) ∙ sym (seal_before kind words (seal_from kind words))
