use Rattle.std.proofs.Common.{◌≡◌, ℕ, ◌+◌, ◌-◌, ◌<◌, ◌≤◌, length, slice_index}
use Rattle.record_layouts.specs.Overlay.{area_at}
use Rattle.record_layouts.proofs.intent.Area.lay.Given as goal

-- the words of the change that were passed have their new values, and the others are as they were
abbrev pub invariant-loop-number : goal.invariant-loop-number
invariant-loop-number g l =
    let area = area_at (g.W.WordSource.words l.self.source.now) l.self.base in
    record {
      passed : (j : ℕ) → l.begin ≤ l.first + j → l.first + j < l.number → slice_index l.words j ≡ area (l.change.values + ((l.first + j) - l.change.span.begin));
      below : (j : ℕ) → j < length l.fn.words → l.first + j < l.begin → slice_index l.words j ≡ slice_index l.fn.words j;
      ahead : (j : ℕ) → j < length l.fn.words → l.number ≤ l.first + j → slice_index l.words j ≡ slice_index l.fn.words j;
      near : (bound : ℕ) → l.begin ≤ bound → l.end ≤ bound → l.number ≤ bound;
    }
