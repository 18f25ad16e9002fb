use Rattle.std.proofs.Common.{◌∙◌, sym, ap, is_some, arith}
use Rattle.record_layouts.proofs.Ranges.{ranges_in-nothing}
use Rattle.record_layouts.proofs.intent.Area.holds_ranges.Goals as goal

pub returns : goal.returns
returns g c = sym (ap is_some (ranges_in-nothing _ c.loop-place.place c.args.end (omega arith))) ∙ c.loop-place.invariant.same
