use Rattle.ow_report.proofs.Reports.{three_tokens}
use Rattle.ow_report.proofs.terminals.put_cursor.Goals as goal

pub returns-clause-writes : goal.returns-clause-writes
returns-clause-writes g c =
    let h = rw (three_tokens, c.from.ensures, c.from-2.ensures, c.from-3.ensures) at c.put_line.ensures.writes in h
