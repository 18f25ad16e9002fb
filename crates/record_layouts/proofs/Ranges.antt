-- Lists of ranges, as words of an area spell them.
use Rattle.std.proofs.Common.{inl, inr, ◌≡◌, ℕ, zero, suc, ◌+◌, ◌-◌, ◌*◌, ◌<◌, ◌≤◌, true, false, if◌then◌else◌, List, [], ◌∷◌, length, take, drop, slice_index, Option, Some, None, is_some, refl, sym, ap, ◌∙◌, arith, length-drop}
use Rattle.std.proofs.lemmas.Grind.{common_steps}
use Rattle.std.proofs.lemmas.List.{ext_get_or}
use Rattle.std.proofs.lemmas.Bool.{cases_lt, cases_Bool, false≢true}
use Rattle.std.proofs.lemmas.Bool.Decides.{nat_tests}
use Rattle.ow_base.specs.Seals.{seal_from}
use Rattle.record_layouts.specs.declared.intent.Change.{Change}
use Rattle.record_layouts.specs.Overlay.{Area, words_from, WordRange, is_range, before, begin_of, end_of, lies_in, laid, or_none, ranges_of, ranges_in, range_at, StandsFirst, values_end, EndsOpen, overlay}

pub length-words_from : (area : Area) (first count : ℕ) → length (words_from area first count) ≡ count
unfolding words_from
length-words_from area first zero = refl
length-words_from area first (suc count) = ap (λ (k : ℕ). suc k) (length-words_from area (first + 1) count)

pub take-words_from : (area : Area) (first count most : ℕ) → count ≤ most → take count (words_from area first most) ≡ words_from area first count
unfolding words_from
take-words_from area first zero most fits = grind (arith, common_steps)
take-words_from area first (suc count) zero fits = absurd (omega arith)
take-words_from area first (suc count) (suc most) fits = ap (λ ws. area first ∷ ws) (take-words_from area (first + 1) count most (omega arith))

pub drop-words_from : (area : Area) (first count most : ℕ) → drop count (words_from area first most) ≡ words_from area (first + count) (most - count)
unfolding words_from
drop-words_from area first zero most = grind (arith, common_steps)
drop-words_from area first (suc count) zero = grind (arith, common_steps)
drop-words_from area first (suc count) (suc most) =
    let e : first + 1 + count ≡ first + suc count = omega arith in
    let d : suc most - suc count ≡ most - count = omega arith in
    drop-words_from area (first + 1) count most ∙ rw (e, d) refl

pub nth-words_from : (area : Area) (first count i : ℕ) → i < count → slice_index (words_from area first count) i ≡ area (first + i)
unfolding words_from
nth-words_from area first zero i there = absurd (omega arith)
nth-words_from area first (suc count) zero there = grind (arith, common_steps)
nth-words_from area first (suc count) (suc i) there =
    let e : first + 1 + i ≡ first + suc i = omega arith in
    nth-words_from area (first + 1) count i (omega arith) ∙ ap area e

-- words of which each is the area's are those words of the area
pub words_from-each : (area : Area) (first : ℕ) (words : List ℕ) (count : ℕ) → length words ≡ count
    → ((j : ℕ) → j < count → slice_index words j ≡ area (first + j)) → words ≡ words_from area first count
words_from-each area first words count long each =
    ext_get_or 0 words (words_from area first count) (long ∙ sym (length-words_from area first count))
    (λ j there. each j (omega arith) ∙ sym (nth-words_from area first count j (omega arith)))

-- how many ranges may be read does not count where it is no less than the words
ranges_of-more : (n m : ℕ) (words : List ℕ) → length words ≤ n → length words ≤ m → ranges_of n words ≡ ranges_of m words
unfolding ranges_of
ranges_of-more n m [] p q = refl
ranges_of-more zero m (w ∷ words) p q = absurd (omega arith)
ranges_of-more (suc n) zero (w ∷ words) p q = absurd (omega arith)
ranges_of-more (suc n) (suc m) (f ∷ []) p q = refl
ranges_of-more (suc n) (suc m) (f ∷ g ∷ []) p q = refl
ranges_of-more (suc n) (suc m) (f ∷ g ∷ c ∷ words) p q =
    let short : length (drop c words) ≤ length words = omega (arith, length-drop {A = ℕ}) in
    rw (ranges_of-more n m (drop c words) (omega arith) (omega arith)) refl

pub ranges_in-range : (f g c : ℕ) (words : List ℕ) → is_range f g c (length words) ≡ true
    → ranges_in (f ∷ g ∷ c ∷ words) ≡ before (record { frame = f; first = g; words = take c words }) (ranges_in (drop c words))
unfolding ranges_in ranges_of
ranges_in-range f g c words e =
    let short : length (drop c words) ≤ suc (suc (length words)) = omega (arith, length-drop {A = ℕ}) in
    rw e (ap (λ o. before (record { frame = f; first = g; words = take c words }) o) (ranges_of-more (suc (suc (length words))) (length (drop c words)) (drop c words) short (omega arith)))

ranges_in-no_range : (f g c : ℕ) (words : List ℕ) → is_range f g c (length words) ≡ false → ranges_in (f ∷ g ∷ c ∷ words) ≡ None
unfolding ranges_in ranges_of
ranges_in-no_range f g c words e = rw e refl

-- three words stand before the others
words_from-three : (area : Area) (place end : ℕ) → place + 3 ≤ end
    → words_from area place (end - place) ≡ area place ∷ area (place + 1) ∷ area (place + 2) ∷ words_from area (place + 3) (end - (place + 3))
unfolding words_from
words_from-three area place end fits =
    let e : end - place ≡ suc (suc (suc (end - (place + 3)))) = omega arith in
    let two : place + 1 + 1 ≡ place + 2 = omega arith in
    let three : place + 1 + 1 + 1 ≡ place + 3 = omega arith in
    rw (e, three, two) refl

some_behind : (range : WordRange) (ranges : Option (List WordRange)) → is_some (before range ranges) ≡ true → is_some ranges ≡ true
some_behind range (Some ranges) e = refl
some_behind range None e = e

laid-before : (range : WordRange) (ranges : Option (List WordRange)) (number word : ℕ) → is_some ranges ≡ true
    → laid (or_none (before range ranges)) number word
    ≡ laid (or_none ranges) number (if lies_in (begin_of range) (end_of range) number then slice_index range.words (number - begin_of range) else word)
unfolding laid
laid-before range (Some ranges) number word e = refl
laid-before range None number word e = cc

module _ (area : Area) (place end : ℕ) where
  pub ranges_in-found : place + 3 ≤ end → is_range (area place) (area (place + 1)) (area (place + 2)) (end - (place + 3)) ≡ true
      → ranges_in (words_from area place (end - place))
      ≡ before (range_at area place (area (place + 2))) (ranges_in (words_from area (place + 3 + area (place + 2)) (end - (place + 3 + area (place + 2)))))
  ranges_in-found fits holds =
      let ws : List ℕ = words_from area (place + 3) (end - (place + 3)) in
      let count : ℕ = area (place + 2) in
      let long : length ws ≡ end - (place + 3) = length-words_from area (place + 3) (end - (place + 3)) in
      let within : count ≤ end - (place + 3) = grind (arith, nat_tests) in
      let rest : end - (place + 3) - count ≡ end - (place + 3 + count) = omega arith in
      ap ranges_in (words_from-three area place end fits)
      ∙ ranges_in-range (area place) (area (place + 1)) count ws (rw long holds)
      ∙ rw (take-words_from area (place + 3) count (end - (place + 3)) within, drop-words_from area (place + 3) count (end - (place + 3)), rest) refl

  pub ranges_in-other : place + 3 ≤ end → is_range (area place) (area (place + 1)) (area (place + 2)) (end - (place + 3)) ≡ false
      → ranges_in (words_from area place (end - place)) ≡ None
  ranges_in-other fits other =
      let ws : List ℕ = words_from area (place + 3) (end - (place + 3)) in
      let long : length ws ≡ end - (place + 3) = length-words_from area (place + 3) (end - (place + 3)) in
      ap ranges_in (words_from-three area place end fits)
      ∙ ranges_in-no_range (area place) (area (place + 1)) (area (place + 2)) ws (rw long other)

  pub ranges_in-short : place < end → end < place + 3 → ranges_in (words_from area place (end - place)) ≡ None
  unfolding ranges_in ranges_of words_from
  ranges_in-short there short =
      elim (cases_lt (place + 1) end) [
        | inl two ↦ let e : end - place ≡ suc (suc zero) = omega arith in rw e refl
        | inr one ↦ let e : end - place ≡ suc zero = omega arith in rw e refl
      ]

  -- the words of a range that may not change, or whose values are not all there
  pub ranges_in-none : (frame first count : ℕ) → frame ≡ area place → first ≡ area (place + 1) → count ≡ area (place + 2) → place + 3 ≤ end
      → is_range frame first count (end - (place + 3)) ≡ false → ranges_in (words_from area place (end - place)) ≡ None
  ranges_in-none frame first count f g h fits other = ranges_in-other fits (rw (← f, ← g, ← h) other)

  pub stands_first : (frame first count : ℕ) → frame ≡ area place → first ≡ area (place + 1) → count ≡ area (place + 2) → place + 3 ≤ end
      → is_range frame first count (end - (place + 3)) ≡ true
      → StandsFirst area place end (record { span = record { begin = 1024 * frame + first; end = 1024 * frame + first + count }; values = place + 3 })
  stands_first frame first count f g h fits holds =
      let within : count ≤ end - (place + 3) = grind (arith, nat_tests) in
      let e : 1024 * frame + first + count - (1024 * frame + first) ≡ count = omega arith in
      record {
        values = refl;
        inside = omega arith;
        begin = rw (← f, ← g) refl;
        order = omega arith;
        ranges = rw (e, h) (ranges_in-found fits (rw (← f, ← g, ← h) holds));
      }

  pub seal_from-first : (so_far : ℕ) → place < end → seal_from so_far (words_from area place (end - place))
      ≡ seal_from (seal_from so_far (area place ∷ [])) (words_from area (place + 1) (end - (place + 1)))
  unfolding words_from seal_from
  seal_from-first so_far there =
      let e : end - place ≡ suc (end - (place + 1)) = omega arith in
      rw e refl

  pub seal_from-none : (so_far : ℕ) → end ≤ place → seal_from so_far (words_from area place (end - place)) ≡ so_far
  unfolding words_from seal_from
  seal_from-none so_far past =
      let e : end - place ≡ zero = omega arith in
      rw e refl

  -- no words are no ranges
  pub ranges_in-nothing : end ≤ place → ranges_in (words_from area place (end - place)) ≡ Some []
  unfolding words_from ranges_in ranges_of
  ranges_in-nothing past =
      let e : end - place ≡ zero = omega arith in
      rw e refl

  -- where no range stands first in a valid payload, none is left
  pub laid-nothing : (number word : ℕ) → (place < end → ranges_in (words_from area place (end - place)) ≡ None)
      → is_some (ranges_in (words_from area place (end - place))) ≡ true
      → laid (or_none (ranges_in (words_from area place (end - place)))) number word ≡ word
  unfolding laid
  laid-nothing number word none valid =
      elim (cases_lt place end) [
        | inl there ↦ absurd (false≢true (sym (ap is_some (none there)) ∙ valid))
        | inr past ↦ rw (ranges_in-nothing past) refl
      ]

  module _ (change : Change) (first : StandsFirst area place end change) (valid : is_some (ranges_in (words_from area place (end - place))) ≡ true) where
    pub is_some-first : is_some (ranges_in (words_from area (values_end change) (end - values_end change))) ≡ true
    is_some-first = some_behind (range_at area place (change.span.end - change.span.begin)) _ (ap is_some (sym first.ranges) ∙ valid)

    -- what the first range makes of a word
    range_word : (number word : ℕ)
        → (let range = range_at area place (change.span.end - change.span.begin) in
        if lies_in (begin_of range) (end_of range) number then slice_index range.words (number - begin_of range) else word)
        ≡ (if lies_in change.span.begin change.span.end number then area (change.values + (number - change.span.begin)) else word)
    range_word number word =
        let count : ℕ = change.span.end - change.span.begin in
        let long : length (words_from area (place + 3) count) ≡ count = length-words_from area (place + 3) count in
        let ends : begin_of (range_at area place count) + count ≡ change.span.end = omega (arith, first.begin, first.order) in
        rw (long, ends, ← first.begin, first.values)
        (elim (cases_Bool (lies_in change.span.begin change.span.end number)) [
          | inl within ↦
              let there : number - change.span.begin < count = grind (arith, nat_tests) in
              rw within (nth-words_from area (place + 3) count (number - change.span.begin) there)
          | inr beside ↦ rw beside refl
        ])

    pub laid-first : (number word : ℕ) → laid (or_none (ranges_in (words_from area place (end - place)))) number word
        ≡ laid (or_none (ranges_in (words_from area (values_end change) (end - values_end change)))) number
        (if lies_in change.span.begin change.span.end number then area (change.values + (number - change.span.begin)) else word)
    laid-first number word =
        ap (λ o. laid (or_none o) number word) first.ranges
        ∙ laid-before (range_at area place (change.span.end - change.span.begin)) _ number word is_some-first
        ∙ ap (λ (w : ℕ). laid (or_none (ranges_in (words_from area (values_end change) (end - values_end change)))) number w) (range_word number word)

    -- so the other ranges make of the word that it becomes what all make of the word before
    pub laid-rest : (number word new whole : ℕ)
        → new ≡ (if lies_in change.span.begin change.span.end number then area (change.values + (number - change.span.begin)) else word)
        → laid (or_none (ranges_in (words_from area place (end - place)))) number word ≡ whole
        → laid (or_none (ranges_in (words_from area (values_end change) (end - values_end change)))) number new ≡ whole
    laid-rest number word new whole becomes all = rw becomes (sym (laid-first number word) ∙ all)

-- the open intent makes of the area's word what the overlay has there
pub overlay-open : (area : Area) (end : ℕ) → EndsOpen area end → (number word : ℕ) → word ≡ area number
    → laid (or_none (ranges_in (words_from area 17 (end - 17)))) number word ≡ overlay area number
unfolding overlay
overlay-open area end ends number word own = rw (own, ends.ranges) refl
