use Rattle.std.proofs.Common.{◌+◌, ◌<◌, ◌∙◌, ap, refl, arith, subst, sym, length, slice_index}
use Rattle.ow_base.specs.Words.{updated}
use Rattle.record_layouts.specs.Overlay.{Area, area_at}
use Rattle.intent_store.specs.Blocks.{IsShutLike}
use Rattle.intent_store.proofs.Openings.{with_words_at-none, with_words_at-more, shut-first, shut-more}
use Rattle.intent_store.proofs.Words.{unstored_same, unstored_then}
use Rattle.intent_store.proofs.opening.store_words.Goals as goal

pub loop-index-init : goal.loop-index-init
loop-index-init g c = record {
  stored = with_words_at-none _ c.args.spelled.end;
  shut = shut-first _ c.requires.shut;
  there = c.requires.area;
  same_beside = refl;
  same_rest = refl;
  able = c.requires.able;
  unstored = unstored_same _ _;
  same_place = refl;
}

pub loop-index-preserved : goal.loop-index-preserved
loop-index-preserved g c =
    let index = c.loop-index.index in
    let begin = c.args.spelled.end in
    let word = slice_index c.args.words.now index in
    let there : index < length c.args.words.now = omega arith in
    let old = area_at (g.W.WordSource.words c.args.store.now) c.args.base in
    let more = with_words_at-more old begin index word c.args.words.now there refl in
    record {
      stored = c.in_ok-store_area.ensures.ok ∙ ap (λ (a : Area). updated a (begin + index) word) c.loop-index.invariant.stored ∙ more;
      shut = subst (λ (a : Area). IsShutLike old a) (sym c.in_ok-store_area.ensures.ok)
          (shut-more old _ (begin + index) word c.loop-index.invariant.shut (omega (arith, c.requires.begun)) (omega (arith, c.requires.room)));
      there = c.store_area.ensures.there;
      same_beside = c.store_area.ensures.beside ∙ c.loop-index.invariant.same_beside;
      same_rest = c.store_area.ensures.rest ∙ c.loop-index.invariant.same_rest;
      able = c.in_ok-store_area.ensures.stays;
      unstored = unstored_then _ _ _ _ _ _ c.loop-index.invariant.unstored c.store_area.ensures.unstored;
      same_place = c.store_area.ensures.place ∙ c.loop-index.invariant.same_place;
    }
