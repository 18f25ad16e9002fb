use Rattle.std.proofs.Common.{ap, sym, ◌∙◌}
use Rattle.record_layouts.specs.Unix.Report.{trimmed}
use Rattle.ow_report.proofs.Reports.{trim_space, trim_none}
use Rattle.ow_report.proofs.terminals.without_trailing_spaces.Goals as goal

pub loop-front-preserved : goal.loop-front-preserved
loop-front-preserved c =
    ap trimmed c.in-Some.ensures.cases.1 ∙ trim_space c.loop-front.rest.now c.in-Some.ensures.cases.0 ∙ c.loop-front.invariant

pub returns : goal.returns
returns c = sym (trim_none c.loop-front.rest.now c.in_default.ensures.cases) ∙ c.loop-front.invariant
