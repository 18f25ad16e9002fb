use Rattle.std.proofs.Common.{ap, ◌∙◌}
use Rattle.std.specs.Prelude.{decimal}
use Rattle.ow_report.specs.declared.lines.Token.TheVariants.{Key, Number}
use Rattle.ow_report.proofs.Reports.{exit_line}
use Rattle.ow_report.proofs.processes.put_exit.Goals as goal

pub returns-clause-writes : goal.returns-clause-writes
returns-clause-writes g c =
    rw (← (exit_line c.args.pid c.args.exit (Number c.from.result) (Key c.key.result) (Number c.from-2.result) c.requires
    (ap decimal c.from.ensures) c.key.ensures (ap decimal (c.from-2.ensures ∙ c.number.ensures))))
    c.put_line.ensures.writes
