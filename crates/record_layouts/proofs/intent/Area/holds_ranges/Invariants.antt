use Rattle.std.proofs.Common.{◌≡◌, ◌-◌, ◌≤◌, is_some}
use Rattle.record_layouts.specs.Overlay.{area_at, ranges_in, words_from}
use Rattle.record_layouts.proofs.intent.Area.holds_ranges.Given as goal

-- what is left is a list of ranges where the whole payload is one
abbrev pub invariant-loop-place : goal.invariant-loop-place
invariant-loop-place g l =
    let area = area_at (g.W.WordSource.words l.self.source.now) l.self.base in
    record {
      begun : 17 ≤ l.place;
      inside : l.place ≤ l.end;
      same : is_some (ranges_in (words_from area l.place (l.end - l.place))) ≡ is_some (ranges_in (words_from area 17 (l.end - 17)));
    }

abbrev pub decreases-loop-place : goal.decreases-loop-place
decreases-loop-place g l = l.end - l.place
