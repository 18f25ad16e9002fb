use Rattle.std.proofs.Common.{◌≡◌, sym, true, arith}
use Rattle.std.proofs.lemmas.Grind.{common_steps}
use Rattle.process_table.specs.Slots.{is_sought}
use Rattle.process_table.proofs.Holding.{such_found, such_none}
use Rattle.process_table.proofs.slots.has_such.Goals as goal

pub returns-then-is : goal.returns-then-is
returns-then-is g c =
    let r = g.V.RecordView.records c.args.view.now in
    let passes : is_sought c.args.sought (r.procs c.loop-slot.slot) ≡ true = grind (arith, common_steps) in
    sym (such_found r (is_sought c.args.sought) c.loop-slot.slot (omega arith) passes)

pub returns : goal.returns
returns g c =
    sym (such_none (g.V.RecordView.records c.args.view.now) (is_sought c.args.sought) (λ k within. c.loop-slot.invariant.none k (omega arith)))
