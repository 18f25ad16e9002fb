use Rattle.std.proofs.Common.{◌+◌, ◌-◌, ◌<◌, ◌≤◌, ◌∙◌, ap, refl, arith}
use Rattle.ow_base.specs.Words.{updated}
use Rattle.record_layouts.specs.Overlay.{Area, area_at}
use Rattle.intent_store.proofs.Changes.{partly-none, partly-more}
use Rattle.intent_store.proofs.Words.{unstored_same, unstored_then}
use Rattle.intent_store.proofs.copying.copy_change.Goals as goal

pub loop-number-init : goal.loop-number-init
loop-number-init g c = record {
  copied = partly-none c.args.change _;
  there = c.requires.area;
  same_beside = refl;
  same_rest = refl;
  able = c.requires.able;
  unstored = unstored_same _ _;
  same_place = refl;
}

pub loop-number-preserved : goal.loop-number-preserved
loop-number-preserved g c =
    let low : c.args.change.span.begin ≤ c.loop-number.number = omega arith in
    let high : c.loop-number.number < c.args.change.span.end = omega arith in
    let old : Area = area_at (g.W.WordSource.words c.args.store.now) c.args.base in
    let so_far = c.loop-number.invariant.copied in
    let value = c.word_of-word.ensures ∙ ap (λ (a : Area). a (c.args.change.values + (c.loop-number.number - c.args.change.span.begin))) so_far in
    let more = partly-more c.args.change c.requires.changes c.loop-number.number c.word_of-word.result old low high c.requires.begins c.requires.ends value in
    record {
      copied = c.in_ok-store_area.ensures.ok ∙ ap (λ (a : Area). updated a c.loop-number.number c.word_of-word.result) so_far ∙ more;
      there = c.store_area.ensures.there;
      same_beside = c.store_area.ensures.beside ∙ c.loop-number.invariant.same_beside;
      same_rest = c.store_area.ensures.rest ∙ c.loop-number.invariant.same_rest;
      able = c.in_ok-store_area.ensures.stays;
      unstored = unstored_then _ _ _ _ _ _ c.loop-number.invariant.unstored c.store_area.ensures.unstored;
      same_place = c.store_area.ensures.place ∙ c.loop-number.invariant.same_place;
    }
