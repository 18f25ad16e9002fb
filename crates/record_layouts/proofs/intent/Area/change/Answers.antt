use Rattle.std.proofs.Common.{◌≡◌, ◌+◌, ◌-◌, arith, false, true}
use Rattle.std.proofs.lemmas.Bool.Decides.{nat_tests}
use Rattle.record_layouts.specs.Overlay.{is_range}
use Rattle.record_layouts.proofs.Ranges.{ranges_in-short, ranges_in-none, stands_first}
use Rattle.record_layouts.proofs.intent.Area.change.Goals as goal
use Rattle.record_layouts.proofs.intent.Area.change.Goals.{then-frame-ge-AREA_FRAMES-via-then-frame-ge-AREA_FRAMES, then-frame-ge-AREA_FRAMES-via-else-frame-ge-AREA_FRAMES+then-first-ge-FRAME_WORDS, then-frame-ge-AREA_FRAMES-via-else-frame-ge-AREA_FRAMES+else-first-ge-FRAME_WORDS+then-count-end}

pub returns-then-end-place-lt-RANGE_HEAD-clause-none :
    goal.returns-then-end-place-lt-RANGE_HEAD-clause-none
returns-then-end-place-lt-RANGE_HEAD-clause-none g c there = ranges_in-short _ c.args.place c.args.end there (omega arith)

pub returns-then-frame-ge-AREA_FRAMES-clause-none : goal.returns-then-frame-ge-AREA_FRAMES-clause-none
returns-then-frame-ge-AREA_FRAMES-clause-none g c there =
    let other : is_range c.word-frame.result c.word-first.result c.word-count.result (c.args.end - (c.args.place + 3)) ≡ false =
    elim c.then-frame-ge-AREA_FRAMES.branch [
      | then-frame-ge-AREA_FRAMES-via-then-frame-ge-AREA_FRAMES w ↦ grind (arith, nat_tests)
      | then-frame-ge-AREA_FRAMES-via-else-frame-ge-AREA_FRAMES+then-first-ge-FRAME_WORDS w ↦ grind (arith, nat_tests)
      | then-frame-ge-AREA_FRAMES-via-else-frame-ge-AREA_FRAMES+else-first-ge-FRAME_WORDS+then-count-end w ↦ grind (arith, nat_tests)
    ] in
    ranges_in-none _ c.args.place c.args.end c.word-frame.result c.word-first.result c.word-count.result c.word-frame.ensures c.word-first.ensures c.word-count.ensures (omega arith) other

pub returns-then-may_change-clause-found : goal.returns-then-may_change-clause-found
returns-then-may_change-clause-found g c =
    let holds : is_range c.word-frame.result c.word-first.result c.word-count.result (c.args.end - (c.args.place + 3)) ≡ true = grind (arith, nat_tests) in
    stands_first _ c.args.place c.args.end c.word-frame.result c.word-first.result c.word-count.result c.word-frame.ensures c.word-first.ensures c.word-count.ensures (omega arith) holds

pub returns-else-may_change-clause-none : goal.returns-else-may_change-clause-none
returns-else-may_change-clause-none g c there =
    let other : is_range c.word-frame.result c.word-first.result c.word-count.result (c.args.end - (c.args.place + 3)) ≡ false = grind (arith, nat_tests) in
    ranges_in-none _ c.args.place c.args.end c.word-frame.result c.word-first.result c.word-count.result c.word-frame.ensures c.word-first.ensures c.word-count.ensures (omega arith) other
