use Rattle.std.proofs.Common.{◌<◌, ◌≡◌, ◌∙◌, ap, refl, arith, is_some, true, sym, subst}
use Rattle.ow_base.specs.Sv32.{WordMap}
use Rattle.word_store.specs.Stores.{with_word_at}
use Rattle.intent_store.proofs.Words.{unstored_same, unstored_then, first-none, first-more, first-there}
use Rattle.intent_store.proofs.frames.zero_frame.Goals as goal

pub loop-word-init : goal.loop-word-init
loop-word-init g c = record {
  stored = first-none _ c.args.frame (λ w. 0);
  same_rest = refl;
  able = c.requires.able;
  unstored = unstored_same _ _;
  same_place = refl;
}

pub store-requires-clause-there : goal.store-requires-clause-there
store-requires-clause-there g c =
    let old = g.W.WordSource.words c.args.store.now in
    let fits : c.loop-word.word < 1024 = omega arith in
    subst (λ (ws : WordMap). is_some (ws c.args.frame c.loop-word.word) ≡ true) (sym c.loop-word.invariant.stored)
    (first-there old c.args.frame (λ w. 0) c.loop-word.word c.loop-word.word (c.requires.there c.loop-word.word fits))

pub loop-word-preserved : goal.loop-word-preserved
loop-word-preserved g c =
    let old = g.W.WordSource.words c.args.store.now in
    let fits : c.loop-word.word < 1024 = omega arith in
    record {
      stored = c.in_ok-store.ensures.ok ∙ ap (λ (ws : WordMap). with_word_at ws c.args.frame c.loop-word.word 0) c.loop-word.invariant.stored
          ∙ first-more old c.args.frame (λ w. 0) c.loop-word.word 0 fits refl;
      same_rest = c.store.ensures.rest ∙ c.loop-word.invariant.same_rest;
      able = c.in_ok-store.ensures.stays;
      unstored = unstored_then _ _ _ _ _ _ c.loop-word.invariant.unstored c.store.ensures.unstored;
      same_place = c.store.ensures.place ∙ c.loop-word.invariant.same_place;
    }
