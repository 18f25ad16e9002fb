use Rattle.ow_report.proofs.Reports.{one_token}
use Rattle.ow_report.proofs.lines.put_number_line.Goals as goal

pub returns-clause-writes : goal.returns-clause-writes
returns-clause-writes g c = let h = rw (one_token, c.from.ensures) at c.put_line.ensures.writes in h
