use Rattle.std.proofs.Common.{sym, subst, refl, ◌∙◌}
use Rattle.std.specs.Option.{IsSome}
use Rattle.syscalls.proofs.WaitPlan.{caller_lives, ended_elsewhere, has_ended_there}
use Rattle.syscalls.proofs.children.wait.Goals as goal

pub proc-requires : goal.proc-requires
proc-requires g c =
    let r = g.V.RecordView.records c.args.view.now in
    (has_ended_there r c.args.caller.now.process.pid c.in-Some.place (sym c.ended_child.ensures ∙ c.in-Some.is)).within

pub unwrap-child-requires : goal.unwrap-child-requires
unwrap-child-requires g c =
    let r = g.V.RecordView.records c.args.view.now in
    let ended = has_ended_there r c.args.caller.now.process.pid c.in-Some.place (sym c.ended_child.ensures ∙ c.in-Some.is) in
    subst IsSome (sym (c.proc.ensures.record ∙ ended.there)) refl

pub take_child-patch-requires-clause-place : goal.take_child-patch-requires-clause-place
take_child-patch-requires-clause-place g c =
    let r = g.V.RecordView.records c.args.view.now in
    (has_ended_there r c.args.caller.now.process.pid c.in-Some.place (sym c.ended_child.ensures ∙ c.in-Some.is)).within

pub take_child-patch-requires-clause-apart : goal.take_child-patch-requires-clause-apart
take_child-patch-requires-clause-apart g c =
    let r = g.V.RecordView.records c.args.view.now in
    let ended = has_ended_there r c.args.caller.now.process.pid c.in-Some.place (sym c.ended_child.ensures ∙ c.in-Some.is) in
    ended_elsewhere r c.args.caller.now.slot c.in-Some.place ended (caller_lives r c.args.caller.now c.requires.caller)
