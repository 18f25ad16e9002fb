use Rattle.std.proofs.Common.{◌≡◌, ◌-◌, ◌≤◌, is_some, true}
use Rattle.record_layouts.specs.Overlay.{area_at, laid, or_none, ranges_in, words_from}
use Rattle.record_layouts.proofs.intent.Area.laid.Given as goal

-- what is left of the ranges makes of the word so far what all of them make of the area's word
abbrev pub invariant-loop-change : goal.invariant-loop-change
invariant-loop-change g l =
    let area = area_at (g.W.WordSource.words l.self.source.now) l.self.base in
    record {
      begun : 17 ≤ l.place;
      inside : l.place ≤ l.end;
      ranges : is_some (ranges_in (words_from area l.place (l.end - l.place))) ≡ true;
      same : laid (or_none (ranges_in (words_from area l.place (l.end - l.place)))) l.number l.word
          ≡ laid (or_none (ranges_in (words_from area 17 (l.end - 17)))) l.number (area l.number);
    }

abbrev pub decreases-loop-change : goal.decreases-loop-change
decreases-loop-change g l = l.end - l.place
