-- Words of an area that are stored one by one.
use Rattle.std.proofs.Common.{◌≡◌, ℕ, ◌+◌, ◌/◌, ◌%◌, ◌<◌, arith}
use Rattle.std.proofs.lemmas.Bool.Decides.{nat_tests}
use Rattle.ow_base.specs.Sv32.{WordMap}
use Rattle.ow_base.specs.Words.{updated}
use Rattle.record_layouts.specs.Held.{beside}
use Rattle.record_layouts.specs.Overlay.{HasArea, area_at}
use Rattle.word_store.specs.Stores.{with_word_at}

module _ (words : WordMap) (base number value : ℕ) where
  area_at-word : (other : ℕ) → area_at (with_word_at words (base + number / 1024) (number % 1024) value) base other ≡ updated (area_at words base) number value other
  unfolding with_word_at
  area_at-word other = grind (arith, nat_tests)

  pub area_at-set : area_at (with_word_at words (base + number / 1024) (number % 1024) value) base ≡ updated (area_at words base) number value
  area_at-set = λ i other. area_at-word other i

  pub has_area-set : HasArea words base → HasArea (with_word_at words (base + number / 1024) (number % 1024) value) base
  unfolding with_word_at
  has_area-set has = record { numbered = has.numbered; there = λ frame word f w. grind (arith, nat_tests, has.there frame word f w) }

  pub beside-set : number < 65536 → beside base (with_word_at words (base + number / 1024) (number % 1024) value) ≡ beside base words
  unfolding with_word_at beside
  beside-set low = grind (arith, nat_tests)
