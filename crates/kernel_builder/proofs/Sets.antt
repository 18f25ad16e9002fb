-- Records that are set one after the other.
use Rattle.std.proofs.Common.{◌≡◌, ◌≢◌, ℕ, ◌+◌, ◌-◌, ◌<◌, true, false, List, length, slice_index, refl, sym, ◌∙◌, ap, subst, arith, inl, inr}
use Rattle.std.proofs.lemmas.Grind.{common_steps}
use Rattle.std.proofs.lemmas.Bool.Decides.{nat_tests}
use Rattle.std.proofs.lemmas.Bool.{cases_Bool, cases_eq}
use Rattle.ow_base.specs.Words.{updated}
use Rattle.record_layouts.specs.declared.places.RecordId.{RecordId}
use Rattle.record_layouts.specs.declared.patch.AnyRec.{AnyRec}
use Rattle.record_layouts.specs.declared.patch.PatchItem.{PatchItem}
use Rattle.record_layouts.specs.Overlay.{Area, WordRange, begin_of, lies_in, may_change}
use Rattle.record_layouts.specs.Places.{AreApart, IsRecordId, first_word, length_of}
use Rattle.record_layouts.specs.Reading.{words_of}
use Rattle.record_layouts.specs.Seam.{IsSpelled, Spells}
use Rattle.record_layouts.proofs.Intents.{words_from-same}
use Rattle.record_layouts.proofs.Ranges.{words_from-each}
use Rattle.kernel_builder.specs.Sets.{HasRecords, IsSet, index_of, unrecorded, with_first_words}

-- a record is given by its number, and each has one
same_index : (one other : RecordId) → IsRecordId one → IsRecordId other → index_of one ≡ index_of other → one ≡ other
same_index one other there there_too same = grind (arith, common_steps)

pub all_numbered : (one : RecordId) → IsRecordId one → index_of one < 467
all_numbered one there = grind (arith, common_steps)

-- no word is in its place yet, and one word more
pub words_none : (area : Area) (begin : ℕ) (words : List ℕ) → area ≡ with_first_words area begin 0 words
unfolding with_first_words
words_none area begin words = λ i number. (let e : area number ≡ with_first_words area begin 0 words number = grind (arith, nat_tests) in e) i

pub words_more : (area now : Area) (begin count : ℕ) (words : List ℕ) → now ≡ with_first_words area begin count words
    → updated now (begin + count) (slice_index words count) ≡ with_first_words area begin (count + 1) words
unfolding with_first_words
words_more area now begin count words is =
    ap (λ (a : Area). updated a (begin + count) (slice_index words count)) is
    ∙ (λ i number. (let e : updated (with_first_words area begin count words) (begin + count) (slice_index words count) number
    ≡ with_first_words area begin (count + 1) words number = grind (arith, nat_tests) in e) i)

-- words that are stored stand in their places, and the others stay
word_within : (area : Area) (begin : ℕ) (words : List ℕ) (i : ℕ) → i < length words
    → with_first_words area begin (length words) words (begin + i) ≡ slice_index words i
unfolding with_first_words
word_within area begin words i less = let place : begin + i - begin ≡ i = omega arith in rw place (grind (arith, nat_tests))

word_beside : (area : Area) (begin count : ℕ) (words : List ℕ) (number : ℕ) → lies_in begin (begin + count) number ≡ false
    → with_first_words area begin count words number ≡ area number
unfolding with_first_words
word_beside area begin count words number out = rw out refl

-- the words that spell a record set it
pub record_set : (old new : Area) (range : WordRange) (item : PatchItem) → Spells range item
    → new ≡ with_first_words old (begin_of range) (length range.words) range.words → IsSet old new item.id item.rec
record_set old new range item spells is =
    let begin : ℕ = first_word item.id in
    let stored : Area = with_first_words old begin (length range.words) range.words in
    let same : new ≡ stored = is ∙ ap (λ (n : ℕ). with_first_words old n (length range.words) range.words) spells.begin in
    let reads : range.words ≡ words_of stored item.id = words_from-each stored begin range.words (length_of item.id) spells.long
    (λ j less. sym (word_within old begin range.words j (omega (arith, less, spells.long)))) in
    record {
      spelled = subst (λ (area : Area). IsSpelled item.rec (words_of area item.id)) (sym same)
          (subst (λ (words : List ℕ). IsSpelled item.rec words) reads spells.spelled);
      others = λ number out.
          ap (λ (area : Area). area number) same ∙ word_beside old begin (length range.words) range.words number (rw spells.long out);
    }

-- no record is set yet
pub records_none : (area : Area) (rec_of : RecordId → AnyRec) → HasRecords area rec_of 0
records_none area rec_of = record { each = λ one there less. absurd (omega arith) }

module _ (old new : Area) (one : RecordId) (rec : AnyRec) (there : IsRecordId one) (set : IsSet old new one rec) where
  -- a record that lies apart stays
  words_stay : (other : RecordId) → AreApart other one → words_of old other ≡ words_of new other
  words_stay other apart = words_from-same old new (first_word other) (length_of other)
      (λ number low high. sym (set.others number (grind (arith, nat_tests, apart))))

  -- one record more
  pub records_more : (rec_of : RecordId → AnyRec) (count : ℕ)
      → ((some other : RecordId) → IsRecordId some → IsRecordId other → some ≢ other → AreApart some other)
      → HasRecords old rec_of count → index_of one ≡ count → rec ≡ rec_of one → HasRecords new rec_of (count + 1)
  records_more rec_of count apart has number is = record {
    each = λ other there_too less. elim (cases_eq (index_of other) (index_of one)) [
      | inl same ↦ subst (λ (some : RecordId). IsSpelled (rec_of some) (words_of new some)) (sym (same_index other one there_too there same))
          (subst (λ (r : AnyRec). IsSpelled r (words_of new one)) is set.spelled)
      | inr differ ↦ subst (λ (words : List ℕ). IsSpelled (rec_of other) words)
          (words_stay other (apart other one there_too there (λ e. differ (ap index_of e))))
          (has.each other there_too (omega arith))
    ];
  }

  -- the words that no record has stay
  pub unrecorded_stay : may_change (first_word one) (first_word one + length_of one) ≡ true → unrecorded new ≡ unrecorded old
  unfolding unrecorded
  unrecorded_stay changed = λ i number. (let e : unrecorded new number ≡ unrecorded old number =
      elim (cases_Bool (may_change number (number + 1))) [
        | inl recorded ↦ rw recorded refl
        | inr out ↦ rw out (set.others number (grind (arith, nat_tests, changed, out)))
      ] in e) i
