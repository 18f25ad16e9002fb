use Rattle.std.proofs.Common.{◌≡◌, ℕ, Option, None, IfNone, subst}
use Rattle.record_layouts.specs.Overlay.{area_at, open_ranges}
use Rattle.record_layouts.proofs.Intents.{overlay-shut}
use Rattle.record_layouts.proofs.intent.Area.read.Goals as goal

pub returns-in-None : goal.returns-in-None
returns-in-None g c =
    let area : ℕ → ℕ = area_at (g.W.WordSource.words c.args.self.now.source.now) c.args.self.now.base in
    rw (overlay-shut area (subst (λ (end : Option ℕ). IfNone end (open_ranges area ≡ None)) c.in-None.is c.requires.closed)) c.read_own.ensures
