use Rattle.std.proofs.Common.{◌≡◌, ℕ, ◌+◌, ◌<◌, get_or}
use Rattle.record_layouts.specs.Overlay.{area_at}
use Rattle.record_layouts.proofs.intent.Area.read_own.Given as goal

-- the words so far are those of the area
abbrev pub invariant-loop-k : goal.invariant-loop-k
invariant-loop-k g l =
    let area = area_at (g.W.WordSource.words l.self.source.now) l.self.base in
    (j : ℕ) → j < l.k → get_or l.words j 0 ≡ area (l.first + j)
