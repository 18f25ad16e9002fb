use Rattle.std.specs.Prelude.{length, codes, decimal}
use Rattle.ow_base.specs.Lines.{line, spaced}
use Rattle.record_layouts.specs.Unix.Report.{out_lines}
use Rattle.ow_base.proofs.Writing.{cut, then_writes}
use Rattle.ow_report.specs.Writing.{tape_line_count}
use Rattle.ow_report.proofs.terminals.put_tape.Goals as goal

pub returns-in-Ok-clause-writes : goal.returns-in-Ok-clause-writes
returns-in-Ok-clause-writes g c =
    then_writes c.put_out_lines.result (line (spaced (spaced (codes "tty") (decimal c.args.tty)) (decimal (length c.args.tape.now))))
    (out_lines (tape_line_count c.args.tape.now) c.args.tape.now) _ _ _ c.in-Ok.ensures.writes c.put_out_lines.ensures.writes

pub returns-in-Err-clause-writes : goal.returns-in-Err-clause-writes
returns-in-Err-clause-writes g c =
    cut (line (spaced (spaced (codes "tty") (decimal c.args.tty)) (decimal (length c.args.tape.now))))
    (out_lines (tape_line_count c.args.tape.now) c.args.tape.now) _ _ c.in-Err.ensures.writes
