use Rattle.std.proofs.Common.{sym}
use Rattle.resurrector.proofs.Frames.{of_users, past_base}
use Rattle.resurrector.proofs.left.Left.page_of.Goals as goal

pub overflow_sub-result : goal.overflow_sub-result
overflow_sub-result g c =
    let r = g.V.RecordView.records c.args.self.now.view.now in
    rw c.pool_base.ensures.base (past_base r c.args.slot c.in_ok-process.process c.args.page c.in_ok-frame.frame (sym c.in_ok-frame.ensures))

pub returns-clause-fits : goal.returns-clause-fits
returns-clause-fits g c =
    let r = g.V.RecordView.records c.args.self.now.view.now in
    rw c.pool_base.ensures.base
    (of_users r c.args.slot c.in_ok-process.process c.args.page c.in_ok-frame.frame c.requires.stands.owned (sym c.in_ok-frame.ensures))
