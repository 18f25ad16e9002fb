-- Words of a frame that are stored one by one, and words of which none is stored.
use Rattle.std.proofs.Common.{◌≡◌, ℕ, ◌+◌, ◌<◌, true, is_some, refl, ◌∙◌, arith}
use Rattle.std.proofs.lemmas.Bool.Decides.{nat_tests}
use Rattle.ow_base.specs.Sv32.{WordMap}
use Rattle.word_store.specs.Stores.{KeepsUnstored, with_first, with_frame, with_word_at}

module _ (words : WordMap) (frame : ℕ) (value : ℕ → ℕ) where
  first-none_word : (f w : ℕ) → words f w ≡ with_first words frame 0 value f w
  unfolding with_frame
  first-none_word f w = grind (arith, nat_tests)

  pub first-none : words ≡ with_first words frame 0 value
  first-none = λ i f w. first-none_word f w i

  first-more_word : (word v : ℕ) → word < 1024 → v ≡ value word → (f w : ℕ) → with_word_at (with_first words frame word value) frame word v f w ≡ with_first words frame (word + 1) value f w
  unfolding with_frame with_word_at
  first-more_word word v fits is f w = grind (arith, nat_tests, is)

  pub first-more : (word v : ℕ) → word < 1024 → v ≡ value word → with_word_at (with_first words frame word value) frame word v ≡ with_first words frame (word + 1) value
  first-more word v fits is = λ i f w. first-more_word word v fits is f w i

  -- the words from this one on are as they were
  pub first-later : (word f : ℕ) → with_first words frame word value f word ≡ words f word
  unfolding with_frame
  first-later word f = grind (arith, nat_tests)

  pub first-there : (count word : ℕ) → is_some (words frame word) ≡ true → is_some (with_first words frame count value frame word) ≡ true
  unfolding with_frame
  first-there count word there = grind (arith, nat_tests, there)

pub unstored_same : (made : ℕ) (words : WordMap) → KeepsUnstored made made words words
unstored_same made words = λ none. (none, refl)

pub unstored_then : (first middle last : ℕ) (old between new : WordMap) → KeepsUnstored first middle old between → KeepsUnstored middle last between new → KeepsUnstored first last old new
unstored_then first middle last old between new before behind = λ none.
    let later = behind none in
    let earlier = before later.0 in
    (earlier.0, later.1 ∙ earlier.1)
