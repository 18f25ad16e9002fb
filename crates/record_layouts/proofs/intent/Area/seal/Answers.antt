use Rattle.std.proofs.Common.{rules, ◌∙◌, sym, arith}
use Rattle.record_layouts.specs.Overlay.{area_at, intent_seal}
use Rattle.record_layouts.proofs.Ranges.{seal_from-first, seal_from-none}
use Rattle.record_layouts.proofs.intent.Area.seal.Goals as goal

pub loop-number-init : goal.loop-number-init
unfolding intent_seal
loop-number-init g c = search rules

pub loop-number-preserved : goal.loop-number-preserved
loop-number-preserved g c =
    let first = seal_from-first (area_at (g.W.WordSource.words c.args.self.now.source.now) c.args.self.now.base) c.loop-number.number c.args.end c.loop-number.so_far (omega arith) in
    cc

pub returns : goal.returns
returns g c = sym (seal_from-none _ c.loop-number.number c.args.end c.loop-number.so_far (omega arith)) ∙ c.loop-number.invariant
