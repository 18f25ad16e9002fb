use Rattle.std.proofs.Common.{◌++◌}
use Rattle.std.specs.Prelude.{codes}
use Rattle.ow_base.specs.Lines.{line}
use Rattle.record_layouts.specs.Unix.Report.{terminal_text}
use Rattle.ow_base.proofs.Writing.{cut}
use Rattle.ow_report.specs.Agrees.{terminals_text}
use Rattle.ow_report.proofs.Reports.{begun, further, broken, finished}
use Rattle.ow_report.proofs.terminals.put_terminals.Goals as goal

pub returns-in-Err-clause-writes : goal.returns-in-Err-clause-writes
unfolding terminals_text
returns-in-Err-clause-writes g c =
    let s = c.args.plant.now in
    cut (terminal_text 0 s.tty0.tape s.tty0.display) (terminal_text 1 s.tty1.tape s.tty1.display ++ line (codes "end")) _ _
    (rw (c.tape.ensures, c.display.ensures) at c.in-Err.ensures.writes)

pub returns-in-Err-put_terminal-clause-writes : goal.returns-in-Err-put_terminal-clause-writes
unfolding terminals_text
returns-in-Err-put_terminal-clause-writes g c =
    let s = c.args.plant.now in
    let text = terminals_text s in
    let tty0 = terminal_text 0 s.tty0.tape s.tty0.display in
    let tty1 = terminal_text 1 s.tty1.tape s.tty1.display in
    let last = line (codes "end") in
    broken text tty1 last _ _ _
    (further text tty0 (tty1 ++ last) _ _ _ (begun text _) (rw (c.tape.ensures, c.display.ensures) at c.in-Ok.ensures.writes))
    (rw (c.tape-2.ensures, c.display-2.ensures) at c.in-Err-put_terminal.ensures.writes)

pub returns-in-Ok-put_terminal-clause-writes : goal.returns-in-Ok-put_terminal-clause-writes
unfolding terminals_text
returns-in-Ok-put_terminal-clause-writes g c =
    let s = c.args.plant.now in
    let text = terminals_text s in
    let tty0 = terminal_text 0 s.tty0.tape s.tty0.display in
    let tty1 = terminal_text 1 s.tty1.tape s.tty1.display in
    let last = line (codes "end") in
    finished _ text last _ _ _
    (further text tty1 last _ _ _
    (further text tty0 (tty1 ++ last) _ _ _ (begun text _) (rw (c.tape.ensures, c.display.ensures) at c.in-Ok.ensures.writes))
    (rw (c.tape-2.ensures, c.display-2.ensures) at c.in-Ok-put_terminal.ensures.writes))
    c.put_all.ensures.writes
