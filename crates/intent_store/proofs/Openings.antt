-- How an intent is spelled and opened.
use Rattle.std.proofs.Common.{◌≡◌, ℕ, suc, ◌+◌, ◌-◌, ◌<◌, ◌≤◌, true, false, List, [], ◌∷◌, ◌++◌, length, take, slice_index, Option, is_some, refl, ap, ◌∙◌, arith, All}
use Rattle.std.proofs.lemmas.Bool.Decides.{nat_tests}
use Rattle.std.proofs.lemmas.Grind.{common_steps}
use Rattle.ow_base.specs.Seals.{seal_from}
use Rattle.ow_base.specs.Words.{updated}
use Rattle.record_layouts.specs.Overlay.{Area, EndsOpen, IsAllowed, IsOpenIntent, WordRange, gate_word, intent_kind, intent_seal, is_sealed_intent, laid, open_ranges, or_none, overlay, payload_of, payload_word, seal_word, words_from}
use Rattle.record_layouts.proofs.Intents.{open_ranges_of}
use Rattle.intent_store.specs.Blocks.{IsShutLike, is_of_block, opened, seal_of_payload, with_words_at}

-- a word is added behind those that stand in an area
pub with_words_at-none : (area : Area) (first : ℕ) → area ≡ with_words_at area first []
unfolding with_words_at
with_words_at-none area first = grind (arith, nat_tests)

with_words_at-word : (area : Area) (first i word : ℕ) (words : List ℕ) → i < length words → word ≡ slice_index words i → (number : ℕ)
    → updated (with_words_at area first (take i words)) (first + i) word number ≡ with_words_at area first (take (i + 1) words) number
unfolding with_words_at
with_words_at-word area first i word words there is number = grind (arith, nat_tests, common_steps, is)

pub with_words_at-more : (area : Area) (first i word : ℕ) (words : List ℕ) → i < length words → word ≡ slice_index words i
    → updated (with_words_at area first (take i words)) (first + i) word ≡ with_words_at area first (take (i + 1) words)
with_words_at-more area first i word words there is = λ k number. with_words_at-word area first i word words there is number k

-- words are added behind others
with_words_at-both : (area : Area) (first : ℕ) (some others : List ℕ) (number : ℕ)
    → with_words_at (with_words_at area first some) (first + length some) others number ≡ with_words_at area first (some ++ others) number
unfolding with_words_at
with_words_at-both area first some others number = grind (arith, nat_tests, common_steps)

pub with_words_at-behind : (area : Area) (first : ℕ) (some others : List ℕ)
    → with_words_at (with_words_at area first some) (first + length some) others ≡ with_words_at area first (some ++ others)
with_words_at-behind area first some others = λ k number. with_words_at-both area first some others number k

pub seal_from-behind : (some others : List ℕ) (begun : ℕ) → seal_from (seal_from begun some) others ≡ seal_from begun (some ++ others)
unfolding seal_from
seal_from-behind [] others begun = refl
seal_from-behind (word ∷ some) others begun = seal_from-behind some others _

-- the words of the block but for the gate count for nothing
pub shut-first : (area : Area) → area gate_word ≡ 0 → IsShutLike area area
shut-first area shut = record { shut = shut; beside = λ number h. refl }

pub shut-more : (old new : Area) (number value : ℕ) → IsShutLike old new → 17 ≤ number → number < 1024 → IsShutLike old (updated new number value)
shut-more old new number value like low high = record {
  shut = grind (arith, nat_tests, like.shut);
  beside = λ other out. grind (arith, nat_tests, like.beside other out);
}

pub shut-then : (old middle new : Area) → IsShutLike old middle → IsShutLike middle new → IsShutLike old new
shut-then old middle new first second = record { shut = second.shut; beside = λ number out. second.beside number out ∙ first.beside number out }

words_from-are : (area : Area) (first : ℕ) (words : List ℕ) → ((k : ℕ) → k < length words → area (first + k) ≡ slice_index words k) → words_from area first (length words) ≡ words
unfolding words_from
words_from-are area first [] are = refl
words_from-are area first (word ∷ words) are =
    let this : area first ≡ word = grind (arith, are 0) in
    let rest = words_from-are area (first + 1) words (λ k there. grind (arith, common_steps, are (suc k))) in
    cc

module _ (area : Area) (payload : List ℕ) (fits : length payload ≤ 1006) where
  opened-payload : (k : ℕ) → k < length payload → opened area payload (payload_word + k) ≡ slice_index payload k
  unfolding with_words_at
  opened-payload k there = grind (arith, nat_tests, common_steps)

  pub opened-gate : opened area payload gate_word ≡ length payload
  opened-gate = grind (arith, nat_tests)

  opened-seal : opened area payload seal_word ≡ seal_of_payload payload
  opened-seal = grind (arith, nat_tests)

  opened-spelled : words_from (opened area payload) payload_word (length payload) ≡ payload
  opened-spelled = words_from-are (opened area payload) payload_word payload opened-payload

  opened-sealed : intent_seal (opened area payload) (payload_word + length payload) ≡ seal_of_payload payload
  unfolding intent_seal words_from
  opened-sealed =
      let e : payload_word + length payload - gate_word ≡ suc (length payload) = omega arith in
      rw (e, opened-gate, opened-spelled) refl

  -- beside the block an area stays when an intent is opened
  pub opened-beside : (number : ℕ) → is_of_block number ≡ false → opened area payload number ≡ area number
  unfolding with_words_at
  opened-beside number out = grind (arith, nat_tests, common_steps)

  module _ (ranges : List WordRange) (spelled : payload ≡ payload_of ranges) (allowed : All IsAllowed ranges) (some : 0 < length payload) where
    pub opened-intent : IsOpenIntent (opened area payload) ranges
    opened-intent = record {
      opened = rw opened-gate some;
      fits = rw opened-gate fits;
      sealed = rw (opened-gate, opened-sealed, opened-seal) refl;
      spelled = rw (opened-gate, opened-spelled) spelled;
      allowed = allowed;
    }

    pub opened-overlay : (number : ℕ) → overlay (opened area payload) number ≡ laid ranges number (opened area payload number)
    unfolding overlay
    opened-overlay number = ap (λ (o : Option (List WordRange)). laid (or_none o) number (opened area payload number)) (open_ranges_of (opened area payload) ranges opened-intent)

-- the payload of an open intent ends where the gate tells
pub ends_by_gate : (area : Area) (ranges : List WordRange) → IsOpenIntent area ranges → EndsOpen area (payload_word + area gate_word)
unfolding open_ranges
ends_by_gate area ranges intent =
    let sealed : is_sealed_intent area ≡ true = grind (arith, nat_tests, intent.opened, intent.fits, intent.sealed) in
    let e : payload_word + area gate_word - payload_word ≡ area gate_word = omega arith in
    record {
      begun = omega arith;
      inside = omega (arith, intent.fits);
      ranges = rw (sealed, e) refl;
      valid = ap is_some (open_ranges_of area ranges intent);
    }

-- the seal of the gate, and from it that of the payload
pub seal_from-gate : (gate : ℕ) (payload : List ℕ) → seal_from (seal_from intent_kind (gate ∷ [])) payload ≡ seal_from intent_kind (gate ∷ payload)
unfolding seal_from
seal_from-gate gate payload = refl
