-- How the changes of an open intent are carried out.
use Rattle.std.proofs.Common.{◌≡◌, ℕ, ◌+◌, ◌-◌, ◌<◌, ◌≤◌, true, false, if◌then◌else◌, List, Option, None, is_some, refl, sym, ap, subst, ◌∙◌, arith, inl, inr}
use Rattle.std.proofs.lemmas.Bool.{cases_Bool}
use Rattle.std.proofs.lemmas.Bool.Decides.{nat_tests}
use Rattle.ow_base.specs.Words.{updated}
use Rattle.record_layouts.specs.declared.intent.Change.{Change}
use Rattle.record_layouts.specs.Overlay.{Area, EndsOpen, StandsFirst, WordRange, gate_of, gate_word, laid, lies_in, may_change, open_ranges, or_none, overlay, payload_word, ranges_in, values_end, words_from}
use Rattle.record_layouts.specs.Reading.{is_readable_gate}
use Rattle.record_layouts.proofs.Intents.{lies_beside, open_ranges-same, words_from-same}
use Rattle.record_layouts.proofs.Ranges.{is_some-first, laid-first, laid-nothing, laid-rest}
use Rattle.intent_store.specs.Blocks.{ReadsAs, partly_changed, rolled}

-- no word is in its place yet
pub partly-none : (change : Change) (area : Area) → area ≡ partly_changed change (change.span.begin - change.span.begin) area
unfolding partly_changed
partly-none change area = grind (arith, nat_tests)

module _ (change : Change) (changes : may_change change.span.begin change.span.end ≡ true) where
  -- the words of the block are none that a change sets
  beside_block : (number : ℕ) → 16 ≤ number → number < 1024 → lies_in change.span.begin change.span.end number ≡ false
  beside_block number low high = lies_beside change.span.begin change.span.end number changes (grind (arith, nat_tests))

  lies_less : (count number : ℕ) → count ≤ change.span.end - change.span.begin → lies_in change.span.begin change.span.end number ≡ false → lies_in change.span.begin (change.span.begin + count) number ≡ false
  lies_less count number fits beside = grind (arith, nat_tests)

  pub partly-beside : (count number : ℕ) (area : Area) → count ≤ change.span.end - change.span.begin → lies_in change.span.begin change.span.end number ≡ false → partly_changed change count area number ≡ area number
  unfolding partly_changed
  partly-beside count number area fits beside = rw (lies_less count number fits beside) refl

  pub partly-block : (count number : ℕ) (area : Area) → count ≤ change.span.end - change.span.begin → 16 ≤ number → number < 1024 → partly_changed change count area number ≡ area number
  partly-block count number area fits low high = partly-beside count number area fits (beside_block number low high)

  -- one more word is in its place
  pub partly-more : (number value : ℕ) (area : Area) → change.span.begin ≤ number → number < change.span.end → 17 ≤ change.values → values_end change ≤ 1023
      → value ≡ partly_changed change (number - change.span.begin) area (change.values + (number - change.span.begin))
      → updated (partly_changed change (number - change.span.begin) area) number value ≡ partly_changed change (number + 1 - change.span.begin) area
  unfolding partly_changed
  partly-more number value area low high begins ends e =
      let same : partly_changed change (number - change.span.begin) area (change.values + (number - change.span.begin)) ≡ area (change.values + (number - change.span.begin))
      = partly-block (number - change.span.begin) (change.values + (number - change.span.begin)) area (omega arith) (omega arith) (omega arith) in
      let v = e ∙ same in
      grind (arith, nat_tests, v)

-- An intent that is carried out: the payload from `place` up to `end` is still to be copied.
pub record IsCopying (first area : Area) (place end : ℕ) : Type 0 where
  pub begun : 17 ≤ place
  pub inside : place ≤ end
  pub ends : EndsOpen area end
  pub reads : ReadsAs first area
  pub valid : is_some (ranges_in (words_from area place (end - place))) ≡ true
  -- what is left makes of the words what the whole intent made of the first ones
  pub becomes : (m : ℕ) → laid (or_none (ranges_in (words_from area place (end - place)))) m (area m) ≡ overlay first m
  -- a word that does not count for what is left does not count for the whole intent
  pub through : (m w v : ℕ) → laid (or_none (ranges_in (words_from area place (end - place)))) m w ≡ laid (or_none (ranges_in (words_from area place (end - place)))) m v
      → laid (or_none (open_ranges area)) m w ≡ laid (or_none (open_ranges area)) m v

pub copying-first : (area : Area) (end : ℕ) → EndsOpen area end → IsCopying area area 17 end
unfolding overlay
copying-first area end ends = record {
  begun = omega arith;
  inside = ends.begun;
  ends = ends;
  reads = record { gate = refl; words = refl };
  valid = ap is_some (sym ends.ranges) ∙ ends.valid;
  becomes = λ m. ap (λ (o : Option (List WordRange)). laid (or_none o) m (area m)) (sym ends.ranges);
  through = λ m w v same. rw ends.ranges same;
}

-- nothing is left
pub copying-over : (first area : Area) (place end : ℕ) → IsCopying first area place end → (place < end → ranges_in (words_from area place (end - place)) ≡ None) → area ≡ overlay first
copying-over first area place end copying none =
    λ i m. (sym (laid-nothing area place end m (area m) none copying.valid) ∙ copying.becomes m) i

-- the block is as it was
module _ (area new : Area) (same : (number : ℕ) → 16 ≤ number → number < 1024 → new number ≡ area number) where
  pub gate-same : gate_of new ≡ gate_of area
  gate-same =
      let gates : new gate_word ≡ area gate_word = same gate_word (omega arith) (omega arith) in
      rw (gates, open_ranges-same new area same) refl

  words-same : (place end : ℕ) → 16 ≤ place → end ≤ 1023 → place ≤ end → words_from new place (end - place) ≡ words_from area place (end - place)
  words-same place end low high order = words_from-same new area place (end - place) (λ number from to. same number (omega arith) (omega arith))

  ends-same : (end : ℕ) → EndsOpen area end → EndsOpen new end
  ends-same end ends = record {
    begun = ends.begun;
    inside = ends.inside;
    ranges = open_ranges-same new area same ∙ ends.ranges ∙ ap ranges_in (sym (words-same payload_word end (omega arith) ends.inside ends.begun));
    valid = ap is_some (open_ranges-same new area same) ∙ ends.valid;
  }

module _ (first area : Area) (place end : ℕ) (copying : IsCopying first area place end) (change : Change) (stands : StandsFirst area place end change) (changes : may_change change.span.begin change.span.end ≡ true) where
  -- what the change sets does not count
  laid-any : (m w v : ℕ) → lies_in change.span.begin change.span.end m ≡ true
      → laid (or_none (ranges_in (words_from area place (end - place)))) m w ≡ laid (or_none (ranges_in (words_from area place (end - place)))) m v
  laid-any m w v lies =
      let l = laid-first area place end change stands copying.valid m w in
      let r = laid-first area place end change stands copying.valid m v in
      rw lies at l ∙ sym (rw lies at r)

  partly-reads_word : (count m : ℕ) → count ≤ change.span.end - change.span.begin
      → laid (or_none (open_ranges area)) m (partly_changed change count area m) ≡ laid (or_none (open_ranges area)) m (area m)
  partly-reads_word count m fits =
      elim (cases_Bool (lies_in change.span.begin change.span.end m)) [
        | inl lies ↦ copying.through m _ _ (laid-any m _ _ lies)
        | inr beside ↦ ap (λ (w : ℕ). laid (or_none (open_ranges area)) m w) (partly-beside change changes count m area fits beside)
      ]

  module _ (count : ℕ) (fits : count ≤ change.span.end - change.span.begin) where
    partly-overlay : overlay (partly_changed change count area) ≡ overlay area
    unfolding overlay
    partly-overlay = λ i m.
        (ap (λ (o : Option (List WordRange)). laid (or_none o) m (partly_changed change count area m)) (open_ranges-same (partly_changed change count area) area (λ n. partly-block change changes count n area fits))
        ∙ partly-reads_word count m fits) i

    pub partly-reads : (new : Area) → new ≡ partly_changed change count area → ReadsAs first new
    partly-reads new e = subst (λ (a : Area). ReadsAs first a) (sym e) (record {
      gate = gate-same area (partly_changed change count area) (λ n. partly-block change changes count n area fits) ∙ copying.reads.gate;
      words = partly-overlay ∙ copying.reads.words;
    })

  changed_word : (m : ℕ) → partly_changed change (change.span.end - change.span.begin) area m
      ≡ (if lies_in change.span.begin change.span.end m then area (change.values + (m - change.span.begin)) else area m)
  unfolding partly_changed
  changed_word m =
      let e : change.span.begin + (change.span.end - change.span.begin) ≡ change.span.end = omega (arith, stands.order) in
      rw e refl

  rest_through : (m w v : ℕ)
      → laid (or_none (ranges_in (words_from area (values_end change) (end - values_end change)))) m w ≡ laid (or_none (ranges_in (words_from area (values_end change) (end - values_end change)))) m v
      → laid (or_none (ranges_in (words_from area place (end - place)))) m w ≡ laid (or_none (ranges_in (words_from area place (end - place)))) m v
  rest_through m w v same =
      let l = laid-first area place end change stands copying.valid m w in
      let r = laid-first area place end change stands copying.valid m v in
      elim (cases_Bool (lies_in change.span.begin change.span.end m)) [
        | inl lies ↦ laid-any m w v lies
        | inr beside ↦ rw beside at l ∙ same ∙ sym (rw beside at r)
      ]

  copied : Area
  copied = partly_changed change (change.span.end - change.span.begin) area

  copying-rest : IsCopying first copied (values_end change) end
  unfolding copied
  copying-rest =
      let whole : ℕ = change.span.end - change.span.begin in
      let same : (n : ℕ) → 16 ≤ n → n < 1024 → partly_changed change whole area n ≡ area n = λ n. partly-block change changes whole n area (omega arith) in
      let low : 17 ≤ values_end change = omega (arith, copying.begun, stands.values) in
      let left = words-same area copied same (values_end change) end (omega arith) copying.ends.inside stands.inside in
      record {
        begun = low;
        inside = stands.inside;
        ends = ends-same area copied same end copying.ends;
        reads = partly-reads whole (omega arith) copied refl;
        valid = rw left (is_some-first area place end change stands copying.valid);
        becomes = λ m. rw left (laid-rest area place end change stands copying.valid m (area m) (copied m) (overlay first m) (changed_word m) (copying.becomes m));
        through = λ m w v e. rw (open_ranges-same copied area same) (copying.through m w v (rest_through m w v (rw left at e)));
      }

  pub copying-next : (new : Area) → new ≡ partly_changed change (change.span.end - change.span.begin) area → IsCopying first new (values_end change) end
  unfolding copied
  copying-next new e = subst (λ (a : Area). IsCopying first a (values_end change) end) (sym e) copying-rest

-- where no intent is open, the area is carried out already
pub rolled-shut : (area : Area) → is_readable_gate (gate_of area) ≡ true → open_ranges area ≡ None → area ≡ rolled area
unfolding overlay laid
rolled-shut area readable none = grind (arith, nat_tests, readable, none)
