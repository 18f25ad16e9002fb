use Rattle.std.proofs.Common.{◌≡◌, ◌+◌, ◌-◌, ◌∙◌, sym, arith, if◌then◌else◌}
use Rattle.record_layouts.specs.Overlay.{Area, area_at, lies_in}
use Rattle.record_layouts.proofs.Ranges.{is_some-first, laid-rest, laid-nothing}
use Rattle.record_layouts.proofs.intent.Area.laid.Goals as goal
use Rattle.record_layouts.proofs.intent.Area.laid.Goals.{then-contains, else-contains}

pub loop-change-preserved : goal.loop-change-preserved
loop-change-preserved g c =
    let area : Area = area_at (g.W.WordSource.words c.args.self.now.source.now) c.args.self.now.base in
    let first = c.in-Some.ensures.found in
    let next = is_some-first area c.loop-change.place c.args.end c.in-Some.change first c.loop-change.invariant.ranges in
    let word : c.if-contains.word ≡ (if lies_in c.in-Some.change.span.begin c.in-Some.change.span.end c.args.number then area (c.in-Some.change.values + (c.args.number - c.in-Some.change.span.begin)) else c.loop-change.word) =
    elim c.if-contains.branch [
      | then-contains w ↦ rw (sym c.contains.ensures ∙ w.if-contains.true) (w.word-is ∙ w.word-word-then-contains.ensures)
      | else-contains w ↦ rw (sym c.contains.ensures ∙ w.if-contains.false) w.word-is
    ] in
    record {
      begun = omega (arith, first.values);
      inside = omega (arith, first.inside);
      ranges = rw c.values_end-place.ensures next;
      same = rw c.values_end-place.ensures (laid-rest area c.loop-change.place c.args.end c.in-Some.change first c.loop-change.invariant.ranges c.args.number c.loop-change.word c.if-contains.word _ word c.loop-change.invariant.same);
    }

pub returns : goal.returns
returns g c =
    sym (laid-nothing _ c.loop-change.place c.args.end c.args.number c.loop-change.word c.in_default.ensures.none c.loop-change.invariant.ranges)
    ∙ c.loop-change.invariant.same
