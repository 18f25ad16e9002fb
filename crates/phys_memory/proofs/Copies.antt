-- Frames that are copied word by word.
use Rattle.std.proofs.Common.{◌≡◌, ℕ, ◌<◌, Bool, true, false, nat_lt, ◌==◌, ◌&&◌, if◌then◌else◌, List, length, Option, sym, ap, ◌∙◌, inl, inr}
use Rattle.std.proofs.lemmas.Bool.{cases_lt, cases_Bool, ne_eqb, false≢true}
use Rattle.ow_base.specs.Sv32.{WordMap}
use Rattle.ow_base.specs.declared.machine.AreaId.{AreaId}
use Rattle.phys_memory.specs.Memory.{MemoryParts, AreWholeFrames, words_of}
use Rattle.phys_memory.specs.Halves.{is_own, own_half, first_own, with_own, words_beside}
use Rattle.phys_memory.specs.Reading.{words_lent, words_from}
use Rattle.phys_memory.specs.declared.lent.OwnWords.{OwnWords}
use Rattle.phys_memory.proofs.Words.{words_of-past}
use Rattle.phys_memory.proofs.Own.{words_of-own, words_beside-rest, words_of-own_half}

-- so many words of a frame are copied, and nothing else has changed
pub record Copied (source : ℕ → Option ℕ) (old new : OwnWords) (to count : ℕ) : Type 0 where
  pub words : (frame word : ℕ) → word < 1024
      → words_lent new frame word ≡ (if frame == to && nat_lt word count then source word else words_lent old frame word)
  pub length : length new.words.now ≡ length old.words.now
  pub first : new.first ≡ old.first
  pub place : new.words.ghost_name ≡ old.words.ghost_name

-- a choice passes through a function
by_test : {X Y : Type 0} (g : X → Y) (x y : X) {u v : Y} (b : Bool) → u ≡ g x → v ≡ g y → (if b then u else v) ≡ g (if b then x else y)
by_test g x y true e d = e
by_test g x y false e d = d

module _ (m : MemoryParts) (dead : AreaId) (rest : WordMap) (from to : ℕ) (old new : OwnWords) (ws : List ℕ) where
  -- the half that is not dead has been lent, and is left with the words of a frame of the rest in one of its own
  pub record IsCopy : Type 0 where
    pub framed : AreWholeFrames m
    pub rest_is : rest ≡ words_beside m dead
    pub from_rest : is_own m dead from ≡ false
    pub to_own : is_own m dead to ≡ true
    pub own_words : old.words.now ≡ own_half m dead
    pub own_frames : old.first ≡ first_own m dead
    pub words : (frame word : ℕ) → word < 1024 → words_lent new frame word ≡ (if frame == to then rest from word else words_lent old frame word)
    pub length : length new.words.now ≡ length old.words.now
    pub first : new.first ≡ old.first
    pub left : ws ≡ new.words.now

  module _ (copy : IsCopy) (f w : ℕ) where
    -- in a frame that is not lent nothing has changed
    copied_rest : is_own m dead f ≡ false → w < 1024 → words_of (with_own m dead ws) f w ≡ words_of m (if f == to then from else f) w
    copied_rest rest fits =
        let same : length ws ≡ length (own_half m dead) = ap length copy.left ∙ copy.length ∙ ap length copy.own_words in
        let other : (f == to) ≡ false = ne_eqb f to (λ e. false≢true (sym rest ∙ ap (is_own m dead) e ∙ copy.to_own)) in
        rw other (words_of-own m dead ws f w copy.framed same fits ∙ rw rest)

    -- a frame that is lent has what it was left with
    copied_own : is_own m dead f ≡ true → w < 1024 → words_of (with_own m dead ws) f w ≡ (if f == to then rest from w else words_lent old f w)
    copied_own own fits =
        let same : length ws ≡ length (own_half m dead) = ap length copy.left ∙ copy.length ∙ ap length copy.own_words in
        words_of-own m dead ws f w copy.framed same fits
        ∙ rw own (ap (λ (xs : List ℕ). words_from (first_own m dead) xs f w) copy.left ∙ ap (λ (k : ℕ). words_from k new.words.now f w) (sym (copy.first ∙ copy.own_frames)))
        ∙ copy.words f w fits

    copied_lent : is_own m dead f ≡ true → w < 1024 → words_of (with_own m dead ws) f w ≡ words_of m (if f == to then from else f) w
    copied_lent own fits =
        let source : rest from w ≡ words_of m from w = ap (λ (words : WordMap). words from w) copy.rest_is ∙ words_beside-rest m dead from w copy.from_rest in
        let before : words_lent old f w ≡ words_of m f w =
        ap (λ (xs : List ℕ). words_from old.first xs f w) copy.own_words
        ∙ ap (λ (k : ℕ). words_from k (own_half m dead) f w) copy.own_frames
        ∙ sym (words_of-own_half m dead f w copy.framed own fits) in
        copied_own own fits ∙ by_test (λ (k : ℕ). words_of m k w) from f (f == to) source before

    pub copied_words : words_of (with_own m dead ws) f w ≡ words_of m (if f == to then from else f) w
    copied_words =
        elim (cases_lt w 1024) [
          | inl fits ↦ elim (cases_Bool (is_own m dead f)) [ inl own ↦ copied_lent own fits | inr rest ↦ copied_rest rest fits ]
          | inr past ↦ words_of-past (with_own m dead ws) f w past ∙ sym (words_of-past m (if f == to then from else f) w past)
        ]
