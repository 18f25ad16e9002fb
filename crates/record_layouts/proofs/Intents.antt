-- The intent that is open in an area.
use Rattle.std.proofs.Common.{◌≡◌, ℕ, zero, suc, ◌+◌, ◌-◌, ◌<◌, ◌≤◌, true, false, List, [], ◌∷◌, ◌++◌, length, take, drop, Option, Some, None, refl, ap, ◌∙◌, subst, arith, inl, inr, length-append, All}
use Rattle.std.proofs.Math.Seq.{take-append_seam, drop-append_seam}
use Rattle.std.proofs.lemmas.Bool.{cases_lt, cases_Bool}
use Rattle.std.proofs.lemmas.Bool.Decides.{nat_tests}
use Rattle.std.proofs.lemmas.List.{take-append-drop, length-take-le}
use Rattle.std.proofs.lemmas.List.Elements.{All-cons, All-nil, All-head, All-tail}
use Rattle.record_layouts.specs.Overlay.{Area, words_from, WordRange, IsAllowed, IsOpenIntent, is_range, is_sealed_intent, before, begin_of, end_of, lies_in, is_within, may_change, gate_word, payload_word, most_payload, seal_word, intent_seal, payload_of, laid, or_none, ranges_of, ranges_in, open_ranges, overlay}
use Rattle.record_layouts.proofs.Ranges.{ranges_in-range}

allowed_is_range : (range : WordRange) (left : ℕ) → IsAllowed range → length range.words ≤ left → is_range range.frame range.first (length range.words) left ≡ true
allowed_is_range range left allowed fits = grind (arith, nat_tests, allowed.placed, allowed.changes)

-- ranges are read from their payload
ranges_in-payload_of : (ranges : List WordRange) → All IsAllowed ranges → ranges_in (payload_of ranges) ≡ Some ranges
unfolding payload_of ranges_in ranges_of
ranges_in-payload_of [] allowed = refl
ranges_in-payload_of (range ∷ ranges) allowed =
    let behind : List ℕ = payload_of ranges in
    let long : length range.words ≤ length (range.words ++ behind) = omega (arith, length-append {A = ℕ}) in
    ranges_in-range range.frame range.first (length range.words) (range.words ++ behind) (allowed_is_range range _ (All-head IsAllowed range ranges allowed) long)
    ∙ rw (take-append_seam range.words behind, drop-append_seam range.words behind) (ap (before range) (ranges_in-payload_of ranges (All-tail IsAllowed range ranges allowed)))

-- a payload, and the ranges that it spells
record Spells (payload : List ℕ) (ranges : List WordRange) : Type 0 where
  spelled : payload ≡ payload_of ranges
  allowed : All IsAllowed ranges

spells_more : (range : WordRange) (behind : List ℕ) (read : Option (List WordRange)) (ranges : List WordRange) → IsAllowed range
    → ((others : List WordRange) → read ≡ Some others → Spells behind others) → before range read ≡ Some ranges
    → Spells (range.frame ∷ range.first ∷ length range.words ∷ (range.words ++ behind)) ranges
unfolding payload_of
spells_more range behind (Some others) ranges allowed rest e =
    let same : range ∷ others ≡ ranges = cc in
    let s = rest others refl in
    subst (λ rs. Spells (range.frame ∷ range.first ∷ length range.words ∷ (range.words ++ behind)) rs) same (record {
      spelled = ap (λ ws. range.frame ∷ range.first ∷ length range.words ∷ (range.words ++ ws)) s.spelled;
      allowed = All-cons IsAllowed range others allowed s.allowed;
    })
spells_more range behind None ranges allowed rest e = cc

-- what is read is spelled by the payload
spells_read : (most : ℕ) (payload : List ℕ) (ranges : List WordRange) → ranges_of most payload ≡ Some ranges → Spells payload ranges
unfolding ranges_of payload_of
spells_read most [] ranges e =
    let same : [] ≡ ranges = cc in
    subst (λ rs. Spells [] rs) same (record { spelled = refl; allowed = All-nil IsAllowed })
spells_read zero (w ∷ words) ranges e = cc
spells_read (suc most) (f ∷ []) ranges e = cc
spells_read (suc most) (f ∷ g ∷ []) ranges e = cc
spells_read (suc most) (f ∷ g ∷ c ∷ words) ranges e =
    elim (cases_Bool (is_range f g c (length words))) [
      | inl holds ↦
          let range : WordRange = record { frame = f; first = g; words = take c words } in
          let fits : c ≤ length words = grind (arith, nat_tests) in
          let long : length (take c words) ≡ c = length-take-le c words fits in
          let allowed : IsAllowed range = record { placed = grind (arith, nat_tests); changes = rw long (grind (arith, nat_tests)) } in
          let s = spells_more range (drop c words) (ranges_of most (drop c words)) ranges allowed (spells_read most (drop c words)) (rw holds at e) in
          rw (long, take-append-drop c words) at s
      | inr other ↦ let none = rw other at e in cc
    ]

module _ (area : Area) (ranges : List WordRange) where
  pub open_ranges_of : IsOpenIntent area ranges → open_ranges area ≡ Some ranges
  unfolding open_ranges
  open_ranges_of intent =
      let sealed : is_sealed_intent area ≡ true = grind (arith, nat_tests, intent.opened, intent.fits, intent.sealed) in
      rw sealed (rw intent.spelled (ranges_in-payload_of ranges intent.allowed))

  pub intent_of : open_ranges area ≡ Some ranges → IsOpenIntent area ranges
  unfolding open_ranges ranges_in
  intent_of e =
      elim (cases_Bool (is_sealed_intent area)) [
        | inl sealed ↦
            let s = spells_read _ _ ranges (rw sealed at e) in
            record {
              opened = grind (arith, nat_tests);
              fits = grind (arith, nat_tests);
              sealed = grind (arith, nat_tests);
              spelled = s.spelled;
              allowed = s.allowed;
            }
        | inr other ↦ let none = rw other at e in cc
      ]

pub words_from-same : (some other : Area) (first count : ℕ) → ((number : ℕ) → first ≤ number → number < first + count → some number ≡ other number)
    → words_from some first count ≡ words_from other first count
unfolding words_from
words_from-same some other first zero same = refl
words_from-same some other first (suc count) same =
    let rest = words_from-same some other (first + 1) count (λ number low high. same number (omega arith) (omega arith)) in
    let this = same first (omega arith) (omega arith) in
    cc

module _ (some other : Area) (same : (number : ℕ) → 16 ≤ number → number < 1024 → some number ≡ other number) where
  seal-same : (count : ℕ) → count ≤ most_payload → intent_seal some (payload_word + count) ≡ intent_seal other (payload_word + count)
  unfolding intent_seal
  seal-same count fits =
      let words = words_from-same some other gate_word (payload_word + count - gate_word) (λ number low high. same number low (omega arith)) in
      rw words refl

  open_ranges-fits : some gate_word ≤ most_payload → open_ranges some ≡ open_ranges other
  unfolding open_ranges
  open_ranges-fits fits =
      let gates : some gate_word ≡ other gate_word = same gate_word (omega arith) (omega arith) in
      let seals : some seal_word ≡ other seal_word = same seal_word (omega arith) (omega arith) in
      let words = words_from-same some other payload_word (some gate_word) (λ number low high. same number (omega arith) (omega arith)) in
      rw (words, seal-same (some gate_word) fits, gates, seals) refl

  pub open_ranges-same : open_ranges some ≡ open_ranges other
  unfolding open_ranges
  open_ranges-same =
      let gates : some gate_word ≡ other gate_word = same gate_word (omega arith) (omega arith) in
      elim (cases_lt most_payload (some gate_word)) [
        | inl past ↦ grind (arith, nat_tests)
        | inr fits ↦ open_ranges-fits fits
      ]

-- what lies in words that may change may change
pub within_part : (low high begin end number : ℕ) → is_within low high begin end ≡ true → lies_in begin end number ≡ true → is_within low high number (number + 1) ≡ true
within_part low high begin end number within lies = grind (arith, nat_tests)

pub lies_beside : (begin end number : ℕ) → may_change begin end ≡ true → may_change number (number + 1) ≡ false → lies_in begin end number ≡ false
lies_beside begin end number changes stays = grind (arith, nat_tests, within_part)

pub laid-beside : (ranges : List WordRange) (number word : ℕ) → All IsAllowed ranges → may_change number (number + 1) ≡ false → laid ranges number word ≡ word
unfolding laid
laid-beside [] number word allowed stays = refl
laid-beside (range ∷ ranges) number word allowed stays =
    let beside = lies_beside (begin_of range) (end_of range) number (All-head IsAllowed range ranges allowed).changes stays in
    rw beside (laid-beside ranges number word (All-tail IsAllowed range ranges allowed) stays)

overlay-read : (area : Area) (number : ℕ) (read : Option (List WordRange)) → open_ranges area ≡ read → may_change number (number + 1) ≡ false
    → laid (or_none read) number (area number) ≡ area number
unfolding laid
overlay-read area number (Some ranges) e stays = laid-beside ranges number (area number) (intent_of area ranges e).allowed stays
overlay-read area number None e stays = refl

pub overlay-beside : (area : Area) (number : ℕ) → may_change number (number + 1) ≡ false → overlay area number ≡ area number
unfolding overlay
overlay-beside area number stays = overlay-read area number (open_ranges area) refl stays

-- where no intent is open, each word is read as it is
pub overlay-shut : (area : Area) → open_ranges area ≡ None → overlay area ≡ area
unfolding overlay laid
overlay-shut area none = λ i m. ap (λ (o : Option (List WordRange)). laid (or_none o) m (area m)) none i
