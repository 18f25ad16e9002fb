use Rattle.std.proofs.Common.{◌≡◌, ◌-◌}
use Rattle.ow_base.specs.Seals.{seal_from}
use Rattle.record_layouts.specs.Overlay.{area_at, intent_seal, words_from}
use Rattle.record_layouts.proofs.intent.Area.seal.Given as goal

-- what is left makes the whole seal of the seal so far
abbrev pub invariant-loop-number : goal.invariant-loop-number
invariant-loop-number g l =
    let area = area_at (g.W.WordSource.words l.self.source.now) l.self.base in
    seal_from l.so_far (words_from area l.number (l.end - l.number)) ≡ intent_seal area l.end
