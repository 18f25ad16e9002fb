use Rattle.std.proofs.Common.{◌≡◌, ℕ, ◌+◌, ◌∙◌, List, length, slice_index, ap, sym, arith}
use Rattle.record_layouts.specs.Overlay.{Area, area_at}
use Rattle.record_layouts.proofs.Ranges.{is_some-first, laid-rest, laid-nothing, length-words_from, nth-words_from, words_from-each, overlay-open}
use Rattle.record_layouts.proofs.intent.Area.read_laid.Goals as goal

pub loop-change-init : goal.loop-change-init
loop-change-init g c =
    let area : Area = area_at (g.W.WordSource.words c.args.self.now.source.now) c.args.self.now.base in
    let opened = c.requires.open in
    let long : length c.read_own.new.words ≡ length c.args.words.now = ap length c.read_own.ensures ∙ length-words_from area c.args.first (length c.args.words.now) in
    record {
      begun = omega arith;
      inside = opened.begun;
      ranges = rw (← opened.ranges) opened.valid;
      long = long;
      same = λ j there. overlay-open area c.args.end opened _ _
          (ap (λ (words : List ℕ). slice_index words j) c.read_own.ensures ∙ nth-words_from area c.args.first (length c.args.words.now) j (omega (arith, long)));
    }

pub loop-change-preserved : goal.loop-change-preserved
loop-change-preserved g c =
    let area : Area = area_at (g.W.WordSource.words c.args.self.now.source.now) c.args.self.now.base in
    let first = c.in-Some.ensures.found in
    let next = is_some-first area c.loop-change.place c.args.end c.in-Some.change first c.loop-change.invariant.ranges in
    record {
      begun = omega (arith, first.values);
      inside = omega (arith, first.inside);
      ranges = rw c.values_end-place.ensures next;
      long = c.lay.ensures.long ∙ c.loop-change.invariant.long;
      same = λ j there. rw c.values_end-place.ensures (laid-rest area c.loop-change.place c.args.end c.in-Some.change first c.loop-change.invariant.ranges (c.args.first + j)
          (slice_index c.loop-change.words j) (slice_index c.lay.new.words j) _ (c.lay.ensures.each j (omega (arith, c.lay.ensures.long))) (c.loop-change.invariant.same j (omega (arith, c.lay.ensures.long))));
    }

pub returns : goal.returns
returns g c =
    words_from-each _ c.args.first c.loop-change.words _ c.loop-change.invariant.long
    (λ j there.
    sym (laid-nothing _ c.loop-change.place c.args.end (c.args.first + j) (slice_index c.loop-change.words j) c.in_default.ensures.none c.loop-change.invariant.ranges)
    ∙ c.loop-change.invariant.same j (omega (arith, c.loop-change.invariant.long)))
