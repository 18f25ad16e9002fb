use Rattle.frame_table.specs.Maps.{framed_pages}
use Rattle.syscalls.specs.Planned.{pages_in}
use Rattle.syscalls.proofs.Stored.{of_process, takes_word_by}
use Rattle.syscalls.proofs.children.takes_word.Goals as goal

pub returns-then-addr-eq0-clause-framed : goal.returns-then-addr-eq0-clause-framed
returns-then-addr-eq0-clause-framed g c =
    let pages = framed_pages (g.V.RecordView.records c.args.view.now) (g.V.WordSource.words c.args.view.now) c.args.caller.now.slot in
    takes_word_by pages c.args.addr c.is_ok.result _ c.if-addr-eq0.true c.is_ok.ensures.value c.can_write.ensures.answer

pub returns-then-addr-eq0-clause-process : goal.returns-then-addr-eq0-clause-process
returns-then-addr-eq0-clause-process g c =
    let r = g.V.RecordView.records c.args.view.now in
    let words = g.V.WordSource.words c.args.view.now in
    let caller = c.args.caller.now in
    let is = c.requires.caller in
    takes_word_by (pages_in r words caller.slot) c.args.addr c.is_ok.result _ c.if-addr-eq0.true c.is_ok.ensures.value
    (of_process r words caller.slot c.args.addr _ caller.process (r.procs caller.slot) is.process is.can.mapped c.can_write.ensures.process_answer)
