use Rattle.std.proofs.Common.{◌<◌, ◌≡◌, ◌∙◌, ℕ, ap, refl, arith, is_some, true, sym, subst}
use Rattle.ow_base.specs.Sv32.{WordMap, word_or_zero}
use Rattle.word_store.specs.Stores.{with_word_at}
use Rattle.intent_store.proofs.Words.{unstored_same, unstored_then, first-none, first-more, first-later, first-there}
use Rattle.intent_store.proofs.frames.copy_frame.Goals as goal

pub loop-place-init : goal.loop-place-init
loop-place-init g c = record {
  stored = first-none _ c.args.to (λ (w : ℕ). word_or_zero (g.W.WordSource.words c.args.store.now c.args.from w));
  same_rest = refl;
  able = c.requires.able;
  unstored = unstored_same _ _;
  same_place = refl;
}

pub store-requires-clause-there : goal.store-requires-clause-there
store-requires-clause-there g c =
    let old = g.W.WordSource.words c.args.store.now in
    let fits : c.loop-place.place < 1024 = omega arith in
    subst (λ (ws : WordMap). is_some (ws c.args.to c.loop-place.place) ≡ true) (sym c.loop-place.invariant.stored)
    (first-there old c.args.to (λ (w : ℕ). word_or_zero (old c.args.from w)) c.loop-place.place c.loop-place.place (c.requires.there c.loop-place.place fits))

pub loop-place-preserved : goal.loop-place-preserved
loop-place-preserved g c =
    let old = g.W.WordSource.words c.args.store.now in
    let fits : c.loop-place.place < 1024 = omega arith in
    let value : c.word_at-value.result ≡ word_or_zero (old c.args.from c.loop-place.place)
    = c.word_at-value.ensures ∙ ap (λ (ws : WordMap). word_or_zero (ws c.args.from c.loop-place.place)) c.loop-place.invariant.stored
    ∙ ap word_or_zero (first-later old c.args.to (λ (w : ℕ). word_or_zero (old c.args.from w)) c.loop-place.place c.args.from) in
    record {
      stored = c.in_ok-store.ensures.ok ∙ ap (λ (ws : WordMap). with_word_at ws c.args.to c.loop-place.place c.word_at-value.result) c.loop-place.invariant.stored
          ∙ first-more old c.args.to (λ (w : ℕ). word_or_zero (old c.args.from w)) c.loop-place.place c.word_at-value.result fits value;
      same_rest = c.store.ensures.rest ∙ c.loop-place.invariant.same_rest;
      able = c.in_ok-store.ensures.stays;
      unstored = unstored_then _ _ _ _ _ _ c.loop-place.invariant.unstored c.store.ensures.unstored;
      same_place = c.store.ensures.place ∙ c.loop-place.invariant.same_place;
    }
