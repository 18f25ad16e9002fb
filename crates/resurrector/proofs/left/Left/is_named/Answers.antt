use Rattle.std.proofs.Common.{◌≡◌, ℕ, Bool, true, refl, sym, ap, ◌∙◌, arith}
use Rattle.record_layouts.proofs.Least.{any_found, any_none}
use Rattle.dead_reader.specs.Left.{handed_of}
use Rattle.resurrector.specs.Survivors.{is_named, names_by, survivor_in}
use Rattle.resurrector.proofs.left.Left.is_named.Goals as goal

pub returns-then-names_by : goal.returns-then-names_by
unfolding is_named
returns-then-names_by g c =
    let test : ℕ → Bool = λ slot. names_by c.args.word (survivor_in (g.V.RecordView.records c.args.self.now.view.now) (handed_of c.args.self.now.handed) slot) in
    let passes : test c.loop-slot.slot ≡ true = ap (names_by c.args.word) (sym c.survivor.ensures.is) ∙ sym c.names_by.ensures ∙ c.if-names_by.true in
    sym (any_found test 0 16 16 c.loop-slot.slot refl (omega arith) (omega arith) passes)

pub returns : goal.returns
unfolding is_named
returns g c =
    sym (any_none (λ slot. names_by c.args.word (survivor_in (g.V.RecordView.records c.args.self.now.view.now) (handed_of c.args.self.now.handed) slot)) 0 16 16 refl
    (record { none = λ k from to. c.loop-slot.invariant.below.none k from (omega arith) }))
