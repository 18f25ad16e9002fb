use Rattle.std.proofs.Common.{Option, is_some, not, ap}
use Rattle.ow_plant.specs.declared.refusal.Refusal.{Refusal}
use Rattle.ow_plant.specs.declared.refusal.Refusal.TheVariants.{Store}
use Rattle.word_store.proofs.Outcomes.{either_way, on_err, on_ok, told_by}
use Rattle.word_store.proofs.Owned.{refused_of_own}
use Rattle.resurrector.proofs.Painted.{none_counted, one_counted, refusal_stands}
use Rattle.resurrector.proofs.painting.paint_row.Goals as goal

pub returns-clause-allowed : goal.returns-clause-allowed
returns-clause-allowed c =
    let own = c.args.own.now in
    told_by c.paint.result _ _ c.paint.ensures.exact
    (refused_of_own own.place.points.now own.place.trap own.lent.now.stores (is_some own.lent.now.refusal) (ap (λ (o : Option Refusal). not (is_some o)) c.requires.able))

pub returns-clause-counted : goal.returns-clause-counted
returns-clause-counted c =
    let own = c.args.own.now in
    either_way c.paint.result _
    (on_ok c.paint.result _ _ (λ e. one_counted own.lent.now c.paint.new.self.lent.now c.args.tty _ e) c.paint.ensures.ok)
    (on_err c.paint.result _ _ (λ e. none_counted own.lent.now c.paint.new.self.lent.now Store e) c.paint.ensures.err)

pub returns-clause-cause : goal.returns-clause-cause
returns-clause-cause c =
    on_err c.paint.result _ _ (λ e. refusal_stands c.args.own.now.lent.now c.paint.new.self.lent.now Store c.requires.able e) c.paint.ensures.err
