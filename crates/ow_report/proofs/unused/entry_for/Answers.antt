use Rattle.std.proofs.Common.{sym, ◌∙◌, arith}
use Rattle.std.proofs.lemmas.Bool.Decides.{nat_tests}
use Rattle.ow_report.proofs.Entries.{entry_found, entry_passed}
use Rattle.ow_report.proofs.Reports.{entry_none}
use Rattle.ow_report.proofs.unused.entry_for.Goals as goal

pub returns-then-entry-trap : goal.returns-then-entry-trap
returns-then-entry-trap c =
    entry_found c.args.history.now c.args.trap c.loop-entry.entry-index c.entry-item.result c.loop-entry-test.true c.entry-item.is
    (grind (arith, nat_tests, c.if-entry-trap.true)) c.loop-entry.invariant

pub loop-entry-preserved : goal.loop-entry-preserved
loop-entry-preserved c =
    entry_passed c.args.history.now c.args.trap c.loop-entry.entry-index c.entry-item.result c.loop-entry-test.true c.entry-item.is
    (grind (arith, nat_tests, c.if-entry-trap.false)) c.loop-entry.invariant

pub returns : goal.returns
returns c = sym (entry_none c.args.history.now c.args.trap c.loop-entry.entry-index c.loop-entry-test.false) ∙ c.loop-entry.invariant
