use Rattle.ow_report.proofs.Reports.{five_tokens}
use Rattle.record_layouts.specs.Unix.PanicReport.{panic_line}
use Rattle.ow_report.proofs.panics.put_panic_line.Goals as goal

pub returns-clause-writes : goal.returns-clause-writes
unfolding panic_line
returns-clause-writes g c =
    let h = rw (five_tokens, c.from.ensures, c.from-2.ensures, c.point_key.ensures, c.from-3.ensures) at c.put_line.ensures.writes in h
