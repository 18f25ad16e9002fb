use Rattle.std.proofs.Common.{◌≡◌, sym, true, arith}
use Rattle.std.proofs.lemmas.Grind.{common_steps}
use Rattle.process_table.specs.Children.{is_first_child}
use Rattle.process_table.proofs.Waiting.{slot_found, slot_none}
use Rattle.process_table.proofs.children.ended_child.Goals as goal

pub returns-then-is_first_child : goal.returns-then-is_first_child
returns-then-is_first_child g c =
    let r = g.V.RecordView.records c.args.view.now in
    let passes : is_first_child r c.args.parent (r.procs c.loop-slot.slot) ≡ true = grind (arith, common_steps) in
    sym (slot_found r c.args.parent c.loop-slot.slot (omega arith) passes c.loop-slot.invariant.none)

pub returns : goal.returns
returns g c =
    sym (slot_none (g.V.RecordView.records c.args.view.now) c.args.parent (λ k within. c.loop-slot.invariant.none k (omega arith)))
