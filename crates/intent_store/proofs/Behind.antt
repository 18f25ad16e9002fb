-- Words behind an area are of none of its records: areas with the same words in their 64 frames have the same records.
use Rattle.std.proofs.Common.{◌≡◌, ℕ, ◌+◌, ◌*◌, ◌/◌, ◌<◌, ◌≤◌, Bool, true, false, if◌then◌else◌, nat_lt, ◌==◌, ◌&&◌, List, Option, None, refl, ap, ◌∙◌, arith, inl, inr}
use Rattle.std.proofs.lemmas.Bool.{cases_Bool, ltb-true}
use Rattle.std.proofs.lemmas.Grind.{common_steps}
use Rattle.std.proofs.lemmas.Bool.Decides.{nat_tests}
use Rattle.ow_base.specs.Sv32.{WordMap}
use Rattle.record_layouts.specs.declared.memory_map.MemoryMap.{MemoryMap}
use Rattle.record_layouts.specs.declared.places.RecordId.{RecordId}
use Rattle.record_layouts.specs.Places.{IsRecordId, first_word, length_of}
use Rattle.record_layouts.specs.Overlay.{Area, area_at, gate_of, gate_word, open_ranges, overlay}
use Rattle.record_layouts.specs.Reading.{is_readable_gate, records_in, records_of, words_of}
use Rattle.record_layouts.specs.Seam.{with_frame_words}
use Rattle.record_layouts.proofs.Intents.{open_ranges-same, words_from-same}
use Rattle.record_layouts.proofs.At.{same_each, same_records, same_where}

module _ (some other : Area) (same : (number : ℕ) → number < 65536 → some number ≡ other number) where
  same_words : (one : RecordId) → IsRecordId one → words_of some one ≡ words_of other one
  same_words one there =
      let within : first_word one + length_of one ≤ 65536 = grind (arith, common_steps) in
      words_from-same some other (first_word one) (length_of one) (λ number from to. same number (omega arith))

  records_within : (map : MemoryMap) → map.user_frames ≤ 384 → (is_readable : Bool) → records_in map is_readable some ≡ records_in map is_readable other
  unfolding records_in
  records_within map room is_readable = same_records (records_in map is_readable some) (records_in map is_readable other) refl
      (same_each map is_readable some other same_words)
      (λ i. same_where 0 (nat_lt i map.user_frames) (some (10240 + i)) (other (10240 + i))
      (λ holds. same (10240 + i) (let less = ltb-true i map.user_frames holds in omega arith)))
      (λ i. same_where 0 (nat_lt i 64) (some (11200 + i)) (other (11200 + i))
      (λ holds. same (11200 + i) (let less = ltb-true i 64 holds in omega arith)))
      (λ s t w. same_where 0 (nat_lt s 16 && nat_lt t 3 && nat_lt w 1024) (some (1024 * (16 + 3 * s + t) + w)) (other (1024 * (16 + 3 * s + t) + w))
      (λ holds. same (1024 * (16 + 3 * s + t) + w)
      (let frame : 16 + 3 * s + t < 64 = grind (arith, nat_tests) in let small : w < 1024 = grind (arith, nat_tests) in omega arith)))

  same_gate : gate_of some ≡ gate_of other
  same_gate =
      let ranges : open_ranges some ≡ open_ranges other = open_ranges-same some other (λ number from to. same number (omega arith)) in
      let gates : some gate_word ≡ other gate_word = same gate_word (omega arith) in
      rw (ranges, gates) refl

  same_shown : (number : ℕ) → number < 65536 → overlay some number ≡ overlay other number
  unfolding overlay
  same_shown number small =
      let ranges : open_ranges some ≡ open_ranges other = open_ranges-same some other (λ one from to. same one (omega arith)) in
      rw (ranges, same number small) refl

-- words behind the 64 frames of an area may change
pub behind_words_kept : (map : MemoryMap) → map.user_frames ≤ 384 → (some other : WordMap) (frame : ℕ) (hit : ℕ → Bool) (value : ℕ → ℕ) → 64 ≤ frame
    → ((number : ℕ) → area_at other map.area_base number ≡ with_frame_words (area_at some map.area_base) frame hit value number)
    → records_of map other ≡ records_of map some
unfolding records_of
behind_words_kept map room some other frame hit value past set_there =
    let area = area_at some map.area_base in
    let after = area_at other map.area_base in
    let same : (number : ℕ) → number < 65536 → after number ≡ area number =
    λ number small. set_there number ∙ (let apart : (number / 1024 == frame) ≡ false = grind (arith, nat_tests) in rw apart refl) in
    (λ j. records_in map (is_readable_gate (same_gate after area same j)) (overlay after))
    ∙ records_within (overlay after) (overlay area) (same_shown after area same) map room (is_readable_gate (gate_of area))
