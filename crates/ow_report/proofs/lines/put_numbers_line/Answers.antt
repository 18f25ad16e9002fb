use Rattle.ow_report.proofs.Reports.{two_tokens}
use Rattle.ow_report.proofs.lines.put_numbers_line.Goals as goal

pub returns-clause-writes : goal.returns-clause-writes
returns-clause-writes g c = let h = rw (two_tokens, c.from.ensures, c.from-2.ensures) at c.put_line.ensures.writes in h
