-- What a plant holds after words were stored that are of no record.
use Rattle.std.proofs.Common.{◌≡◌, ℕ, ◌+◌, ◌-◌, ◌/◌, ◌<◌, ◌≤◌, Bool, true, false, nat_lt, ◌&&◌, ◌==◌, if◌then◌else◌, [], Some, is_some, refl, ap, ◌∙◌, ◌⊎◌, arith, inl, inr}
use Rattle.std.proofs.lemmas.Bool.{cases_Bool, cases_lt}
use Rattle.std.proofs.lemmas.Bool.Decides.{nat_tests}
use Rattle.ow_base.specs.Sv32.{WordMap, word_or_zero}
use Rattle.ow_plant.specs.State.{PlantState}
use Rattle.phys_memory.specs.Memory.{words_of}
use Rattle.record_layouts.specs.Held.{Records, beside, is_direct, is_of_area, with_area_words, with_words}
use Rattle.record_layouts.specs.Overlay.{Area, area_at, gate_of, overlay}
use Rattle.record_layouts.specs.Reading.{is_readable_gate, records_in, records_of}
use Rattle.record_layouts.specs.Seam.{with_frame_words}
use Rattle.record_layouts.proofs.Stores.{stored_words_set}
use Rattle.intent_store.proofs.Behind.{behind_words_kept}
use Rattle.intent_store.specs.Live.{IsStanding, held_of, map_of, records_held, rest_of}
use Rattle.word_store.specs.Stores.{with_frame, with_word_at}
use Rattle.intent_store.proofs.Holding.{map_same}
use Rattle.intent_store.proofs.Plants.{armed_by_rest}

-- a word by itself
word_alone-at : (words : WordMap) (frame word value f w : ℕ) → word < 1024 → with_word_at words frame word value f w ≡ with_frame words frame (λ k. k == word) (λ k. value) f w
unfolding with_word_at with_frame
word_alone-at words frame word value f w fits = grind (arith, nat_tests)

pub word_alone : (words : WordMap) (frame word value : ℕ) → word < 1024 → with_word_at words frame word value ≡ with_frame words frame (λ k. k == word) (λ k. value)
word_alone words frame word value fits = λ i f w. word_alone-at words frame word value f w fits i

module _ (words : WordMap) (base frame : ℕ) (hit : ℕ → Bool) (value : ℕ → ℕ) where
  area_within : base ≤ frame → (number : ℕ) → area_at (with_frame words frame hit value) base number ≡ with_frame_words (area_at words base) (frame - base) hit value number
  unfolding with_frame
  area_within low number = grind (arith, nat_tests)

  area_before : frame < base → area_at (with_frame words frame hit value) base ≡ area_at words base
  unfolding with_frame
  area_before high = λ i number. (let e : (base + number / 1024 == frame) ≡ false = grind (arith, nat_tests) in let r : area_at (with_frame words frame hit value) base number ≡ area_at words base number = rw e refl in r) i

  beside_within : is_of_area base frame ≡ true → beside base (with_frame words frame hit value) ≡ beside base words
  unfolding with_frame beside
  beside_within of = grind (arith, nat_tests)

  beside_word : is_of_area base frame ≡ false → (f w : ℕ) → beside base (with_frame words frame hit value) f w
      ≡ (if f == frame && nat_lt w 1024 && hit w then Some (value w) else beside base words f w)
  unfolding with_frame beside
  beside_word of f w = grind (arith, nat_tests, of)

area_head : (r : Records) (frame : ℕ) (hit : ℕ → Bool) (value : ℕ → ℕ) → (with_area_words r frame hit value).head ≡ r.head
area_head r frame hit value = elim (cases_Bool (frame == 10)) [
  | inl owners ↦ rw owners refl
  | inr other ↦ rw other (elim (cases_Bool (nat_lt frame 16)) [ inl spare ↦ rw spare refl | inr table ↦ rw table refl ])
]

direct_place : (base frame : ℕ) → is_direct base frame ≡ true → is_of_area base frame ≡ true → (base ≤ frame) × (frame - base < 64) × ((frame - base ≡ 10) ⊎ (12 ≤ frame - base))
direct_place base frame direct of =
    let low : base ≤ frame = grind (arith, nat_tests) in
    let high : frame - base < 64 = grind (arith, nat_tests) in
    let place : (frame - base ≡ 10) ⊎ (12 ≤ frame - base) = elim (cases_lt (frame - base) 12) [ inl less ↦ inl (grind (arith, nat_tests)) | inr more ↦ inr more ] in
    (low, high, place)

module _ (old new : PlantState) (frame : ℕ) (hit : ℕ → Bool) (value : ℕ → ℕ) (few : old.shape.user_frames ≤ 384) (rest : rest_of new ≡ rest_of old)
    (direct : is_direct (map_of old).area_base frame ≡ true) (stored : words_of new.memory ≡ with_frame (words_of old.memory) frame hit value) where
  after : WordMap
  after = with_frame (words_of old.memory) frame hit value

  records_after : records_held new ≡ records_of (map_of old) after
  unfolding after
  records_after = λ i. records_of (map_same old new rest i) (stored i)

  contents_after : beside (map_of new).area_base (words_of new.memory) ≡ beside (map_of old).area_base after
  unfolding after
  contents_after = λ i. beside (map_same old new rest i).area_base (stored i)

  records_within : is_of_area (map_of old).area_base frame ≡ true → records_held new ≡ with_area_words (records_held old) (frame - (map_of old).area_base) hit value
  unfolding after
  records_within of =
      let place = direct_place (map_of old).area_base frame direct of in
      records_after ∙ stored_words_set (map_of old) few (words_of old.memory) after (frame - (map_of old).area_base) hit value place.2 place.1
      (area_within (words_of old.memory) (map_of old).area_base frame hit value place.0)

  records_beside : is_of_area (map_of old).area_base frame ≡ false → records_held new ≡ records_held old
  unfolding after records_of
  records_beside of = records_after ∙ elim (cases_lt frame (map_of old).area_base) [
    | inl before ↦ ap (λ (a : Area). records_in (map_of old) (is_readable_gate (gate_of a)) (overlay a)) (area_before (words_of old.memory) (map_of old).area_base frame hit value before)
    | inr behind ↦
        let past : 64 ≤ frame - (map_of old).area_base = grind (arith, nat_tests) in
        behind_words_kept (map_of old) few (words_of old.memory) after (frame - (map_of old).area_base) hit value past (area_within (words_of old.memory) (map_of old).area_base frame hit value behind)
  ]

  pub held_stored : held_of new ≡ with_words (held_of old) frame hit value
  unfolding after with_words records_of records_in
  held_stored = elim (cases_Bool (is_of_area (map_of old).area_base frame)) [
    | inl of ↦
        let contents = contents_after ∙ beside_within (words_of old.memory) (map_of old).area_base frame hit value of in
        let records = records_within of in
        rw of (λ i. record { records = records i; contents = contents i; disk = []; rest = rest i })
    | inr of ↦
        let contents = contents_after ∙ (λ i f w. beside_word (words_of old.memory) (map_of old).area_base frame hit value of f w i) in
        let records = records_beside of in
        rw of (λ i. record { records = records i; contents = contents i; disk = []; rest = rest i })
  ]

  head_stored : (records_held new).head ≡ (records_held old).head
  head_stored = elim (cases_Bool (is_of_area (map_of old).area_base frame)) [
    | inl of ↦ ap (λ (r : Records). r.head) (records_within of) ∙ area_head (records_held old) (frame - (map_of old).area_base) hit value
    | inr of ↦ ap (λ (r : Records). r.head) (records_beside of)
  ]

  pub standing_stored : IsStanding old → IsStanding new
  standing_stored stands = record {
    armed = armed_by_rest old new rest stands.armed;
    decodes = ap (λ o. is_some o) head_stored ∙ stands.decodes;
  }

-- the words of a frame beside the area
beside_at : (words : WordMap) (base frame w : ℕ) → is_of_area base frame ≡ false → word_or_zero (words frame w) ≡ word_or_zero (beside base words frame w)
unfolding beside
beside_at words base frame w of = rw of refl

pub beside_is : (words : WordMap) (base frame : ℕ) → is_of_area base frame ≡ false → ◌≡◌ {A = ℕ → ℕ} (λ w. word_or_zero (words frame w)) (λ w. word_or_zero (beside base words frame w))
beside_is words base frame of = λ i w. beside_at words base frame w of i

-- where no word was set
pub standing_same : (old new : PlantState) → rest_of new ≡ rest_of old → words_of new.memory ≡ words_of old.memory → IsStanding old → IsStanding new
standing_same old new rest same stands =
    let records : records_held new ≡ records_held old = λ i. records_of (map_same old new rest i) (same i) in
    record {
      armed = armed_by_rest old new rest stands.armed;
      decodes = ap (λ (r : Records). is_some r.head) records ∙ stands.decodes;
    }
