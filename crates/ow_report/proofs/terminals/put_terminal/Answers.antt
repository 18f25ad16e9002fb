use Rattle.record_layouts.specs.Unix.Report.{terminal_text, tape_text, screen_text}
use Rattle.ow_base.proofs.Writing.{cut, then_writes}
use Rattle.ow_report.proofs.terminals.put_terminal.Goals as goal

pub returns-in-Ok-clause-writes : goal.returns-in-Ok-clause-writes
unfolding terminal_text
returns-in-Ok-clause-writes g c =
    then_writes c.put_screen.result (tape_text c.args.tty c.args.tape.now) (screen_text c.args.tty c.args.display.now) _ _ _
    c.in-Ok.ensures.writes c.put_screen.ensures.writes

pub returns-in-Err-clause-writes : goal.returns-in-Err-clause-writes
unfolding terminal_text
returns-in-Err-clause-writes g c =
    cut (tape_text c.args.tty c.args.tape.now) (screen_text c.args.tty c.args.display.now) _ _ c.in-Err.ensures.writes
