use Rattle.std.proofs.Common.{◌≡◌, true, refl, sym, arith}
use Rattle.std.proofs.lemmas.Grind.{common_steps}
use Rattle.record_layouts.proofs.Least.{any_found, any_none}
use Rattle.dead_reader.specs.Terminals.{lacks_row, is_lost_row}
use Rattle.resurrector.proofs.left.Left.lacks_row.Goals as goal

pub returns-then-is_none : goal.returns-then-is_none
unfolding lacks_row
returns-then-is_none g c =
    let r = g.V.RecordView.records c.args.self.now.view.now in
    let passes : is_lost_row r c.args.tty c.loop-place.place ≡ true = grind (arith, common_steps) in
    sym (any_found (is_lost_row r c.args.tty) 0 24 24 c.loop-place.place refl (omega arith) (omega arith) passes)

pub returns : goal.returns
unfolding lacks_row
returns g c = sym (any_none (is_lost_row (g.V.RecordView.records c.args.self.now.view.now) c.args.tty) 0 24 24 refl
    (record { none = λ k from to. c.loop-place.invariant.below.none k from (omega arith) }))
