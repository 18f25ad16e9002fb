use Rattle.std.proofs.Common.{◌≡◌, true, refl, sym, arith}
use Rattle.std.proofs.lemmas.Grind.{common_steps}
use Rattle.record_layouts.proofs.Least.{any_found, any_none}
use Rattle.dead_reader.specs.Losses.{may_lack_page, is_lost_entry}
use Rattle.dead_reader.proofs.losses.may_lack_page.Goals as goal

pub returns-then-names_file : goal.returns-then-names_file
unfolding may_lack_page
returns-then-names_file g c =
    let r = g.V.RecordView.records c.args.view.now in
    let passes : is_lost_entry r c.args.file c.loop-entry.entry ≡ true = grind (arith, common_steps) in
    sym (any_found (is_lost_entry r c.args.file) 0 64 64 c.loop-entry.entry refl (omega arith) (omega arith) passes)

pub returns : goal.returns
unfolding may_lack_page
returns g c = sym (any_none (is_lost_entry (g.V.RecordView.records c.args.view.now) c.args.file) 0 64 64 refl
    (record { none = λ k from to. c.loop-entry.invariant.below.none k from (omega arith) }))
