use Rattle.std.proofs.Common.{inl, inr}
use Rattle.process_table.specs.Choosing.{IsNext, IsNone, last_pid}
use Rattle.process_table.proofs.Working.{worked}
use Rattle.process_table.proofs.choice.choose.Goals as goal

pub returns-in-Some : goal.returns-in-Some
returns-in-Some g c =
    let r = g.V.RecordView.records c.args.view.now in
    let next : IsNext r c.args.now.now (last_pid r.head) c.in-Some.next.slot = rw c.last_pid.ensures at (rw c.in-Some.is at c.next_ones-nexts.ensures.above) in
    worked r c.args.now.now c.in-Some.next.slot (last_pid r.head) c.work_of.result (inl next) next.ready c.work_of.ensures

pub returns-in-Some-least : goal.returns-in-Some-least
returns-in-Some-least g c =
    let r = g.V.RecordView.records c.args.view.now in
    let none : IsNone r c.args.now.now (last_pid r.head) = rw c.last_pid.ensures at (rw c.in_default.is at c.next_ones-nexts.ensures.none_above) in
    let next : IsNext r c.args.now.now 0 c.in-Some-least.next.slot = rw c.in-Some-least.is at c.next_ones-nexts.ensures.least in
    worked r c.args.now.now c.in-Some-least.next.slot 0 c.work_of-in-Some-least.result (inr (none, next)) next.ready c.work_of-in-Some-least.ensures
