use Rattle.std.proofs.Common.{ap, refl}
use Rattle.std.specs.Prelude.{decimal}
use Rattle.ow_report.specs.declared.lines.Token.TheVariants.{Number, Escaped}
use Rattle.ow_report.proofs.Reports.{row_line}
use Rattle.ow_report.proofs.terminals.put_row.Goals as goal

pub returns-clause-writes : goal.returns-clause-writes
returns-clause-writes g c =
    let text = c.without_trailing_spaces-text in
    rw (
      ← text.ensures,
      ← (row_line c.args.number text.result.now (Number c.from.result) (Escaped text.result) c.if-is_empty.ensures
          (ap decimal c.from.ensures) refl),
    )
    c.put_line.ensures.writes
