-- Bytes in words, four to a word, the first lowest.
use Rattle.std.specs.Prelude.{◌≡◌, ℕ, ◌<◌, ◌*◌, ◌/◌, ◌%◌, List, [], ◌∷◌, length, slice_index}
use Rattle.ow_base.specs.Words.{byte_of_words}

-- the bytes stand in these words, and fill them
pub record ArePacked (words bytes : List ℕ) : Type 0 where
  pub filled : length bytes ≡ 4 * length words
  pub each : (j : ℕ) → j < length bytes → slice_index bytes j ≡ byte_of_words words j

-- the bytes that stand in words
unfoldable pub unpacked : (words : List ℕ) → List ℕ
unpacked [] = []
unpacked (word ∷ words) = word % 256 ∷ word / 256 % 256 ∷ word / 65536 % 256 ∷ word / 16777216 % 256 ∷ unpacked words
