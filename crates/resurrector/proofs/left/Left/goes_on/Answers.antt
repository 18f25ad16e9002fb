use Rattle.std.proofs.Common.{◌≡◌, ℕ, Bool, true, refl, sym, ap, ◌∙◌, arith}
use Rattle.record_layouts.proofs.Least.{any_found, any_none}
use Rattle.dead_reader.specs.Left.{handed_of}
use Rattle.resurrector.specs.Survivors.{goes_on, has_pid, survivor_in}
use Rattle.resurrector.proofs.left.Left.goes_on.Goals as goal

pub returns-then-has_pid : goal.returns-then-has_pid
unfolding goes_on
returns-then-has_pid g c =
    let test : ℕ → Bool = λ slot. has_pid c.args.pid (survivor_in (g.V.RecordView.records c.args.self.now.view.now) (handed_of c.args.self.now.handed) slot) in
    let passes : test c.loop-slot.slot ≡ true = ap (has_pid c.args.pid) (sym c.survivor.ensures.is) ∙ sym c.has_pid.ensures ∙ c.if-has_pid.true in
    sym (any_found test 0 16 16 c.loop-slot.slot refl (omega arith) (omega arith) passes)

pub returns : goal.returns
unfolding goes_on
returns g c =
    sym (any_none (λ slot. has_pid c.args.pid (survivor_in (g.V.RecordView.records c.args.self.now.view.now) (handed_of c.args.self.now.handed) slot)) 0 16 16 refl
    (record { none = λ k from to. c.loop-slot.invariant.below.none k from (omega arith) }))
