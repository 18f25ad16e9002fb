use Rattle.std.proofs.Common.{◌≡◌, ℕ, ◌+◌, ◌-◌, ◌<◌, ◌≤◌, is_some, length, slice_index, true}
use Rattle.record_layouts.specs.Overlay.{area_at, laid, or_none, overlay, ranges_in, words_from}
use Rattle.record_layouts.proofs.intent.Area.read_laid.Given as goal

-- what is left of the ranges makes of each word so far what all of them make of the area's
abbrev pub invariant-loop-change : goal.invariant-loop-change
invariant-loop-change g l =
    let area = area_at (g.W.WordSource.words l.self.source.now) l.self.base in
    record {
      begun : 17 ≤ l.place;
      inside : l.place ≤ l.end;
      ranges : is_some (ranges_in (words_from area l.place (l.end - l.place))) ≡ true;
      long : length l.words ≡ length l.fn.words;
      same : (j : ℕ) → j < length l.words → laid (or_none (ranges_in (words_from area l.place (l.end - l.place)))) (l.first + j) (slice_index l.words j)
          ≡ overlay area (l.first + j);
    }

abbrev pub decreases-loop-change : goal.decreases-loop-change
decreases-loop-change g l = l.end - l.place
