use Rattle.std.proofs.Common.{rules, Option, is_some, not, ap}
use Rattle.ow_plant.specs.declared.refusal.Refusal.{Refusal}
use Rattle.ow_plant.specs.declared.refusal.Refusal.TheVariants.{Store}
use Rattle.word_store.proofs.Outcomes.{either_way, on_err, on_ok, told_by}
use Rattle.word_store.proofs.Owned.{refused_of_own}
use Rattle.ow_plant.specs.Owning.{own_words}
use Rattle.record_layouts.specs.Reading.{records_of}
use Rattle.resurrector.proofs.Painted.{cursor_shows, none_counted, one_counted, refusal_stands}
use Rattle.resurrector.proofs.painting.set_cursor.Goals as goal

pub returns-clause-allowed : goal.returns-clause-allowed
returns-clause-allowed c =
    let own = c.args.own.now in
    told_by c.cursor.result _ _ c.cursor.ensures.exact
    (refused_of_own own.place.points.now own.place.trap own.lent.now.stores (is_some own.lent.now.refusal) (ap (λ (o : Option Refusal). not (is_some o)) c.requires.able))

pub returns-clause-shown : goal.returns-clause-shown
returns-clause-shown c =
    let own = c.args.own.now in
    on_ok c.cursor.result _ _
    (λ e. cursor_shows (records_of c.args.map.now (own_words own)) c.args.tty own.lent.now c.cursor.new.self.lent.now c.unwrap-terminal.result (search rules) (search rules) (search rules) e)
    c.cursor.ensures.ok

pub returns-clause-counted : goal.returns-clause-counted
returns-clause-counted c =
    let own = c.args.own.now in
    either_way c.cursor.result _
    (on_ok c.cursor.result _ _ (λ e. one_counted own.lent.now c.cursor.new.self.lent.now c.args.tty _ e) c.cursor.ensures.ok)
    (on_err c.cursor.result _ _ (λ e. none_counted own.lent.now c.cursor.new.self.lent.now Store e) c.cursor.ensures.err)

pub returns-clause-cause : goal.returns-clause-cause
returns-clause-cause c =
    on_err c.cursor.result _ _ (λ e. refusal_stands c.args.own.now.lent.now c.cursor.new.self.lent.now Store c.requires.able e) c.cursor.ensures.err
