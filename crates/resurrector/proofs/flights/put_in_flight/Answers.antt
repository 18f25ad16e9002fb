use Rattle.std.proofs.Common.{Option, is_some, not, ap}
use Rattle.dead_reader.specs.Left.{records_left}
use Rattle.dead_reader.specs.Terminals.{IsInFlight}
use Rattle.ow_plant.specs.declared.refusal.Refusal.{Refusal}
use Rattle.ow_plant.specs.declared.refusal.Refusal.TheVariants.{Store}
use Rattle.word_store.proofs.Outcomes.{either_way, on_err, on_ok, told_by}
use Rattle.word_store.proofs.Owned.{refused_of_own}
use Rattle.resurrector.proofs.InFlight.{leaves_put, leaves_refused, tape_of_none, tape_of_put}
use Rattle.resurrector.proofs.Painted.{none_counted, one_counted, refusal_stands}
use Rattle.resurrector.proofs.flights.put_in_flight.Goals as goal

pub returns-in-Some-clause-put : goal.returns-in-Some-clause-put
returns-in-Some-clause-put g c =
    let dead = g.M.DeadMemory.dead c.args.dead.now in
    let r = records_left dead (g.M.WordSource.words c.args.dead.now) in
    let flight : IsInFlight r c.args.tty (dead.counts c.args.tty) c.in-Some.byte = rw (← c.new.ensures) c.in-Some.ensures.found in
    on_ok c.put.result _ _
    (λ e. tape_of_put r c.args.tty (dead.counts c.args.tty) c.args.own.now.lent.now c.put.new.self.lent.now c.requires.counted c.in-Some.byte flight e)
    c.put.ensures.ok

pub returns-in-Some-clause-only : goal.returns-in-Some-clause-only
returns-in-Some-clause-only g c =
    let dead = g.M.DeadMemory.dead c.args.dead.now in
    let r = records_left dead (g.M.WordSource.words c.args.dead.now) in
    let flight : IsInFlight r c.args.tty (dead.counts c.args.tty) c.in-Some.byte = rw (← c.new.ensures) c.in-Some.ensures.found in
    either_way c.put.result _
    (on_ok c.put.result _ _
    (λ e. leaves_put r c.args.tty (dead.counts c.args.tty) c.args.own.now.lent.now c.put.new.self.lent.now c.requires.counted c.in-Some.byte c.requires.tty flight e)
    c.put.ensures.ok)
    (on_err c.put.result _ _ (λ e. leaves_refused r c.args.tty c.args.own.now.lent.now c.put.new.self.lent.now Store e) c.put.ensures.err)

pub returns-in-Some-clause-allowed : goal.returns-in-Some-clause-allowed
returns-in-Some-clause-allowed g c =
    let own = c.args.own.now in
    told_by c.put.result _ _ c.put.ensures.exact
    (refused_of_own own.place.points.now own.place.trap own.lent.now.stores (is_some own.lent.now.refusal) (ap (λ (o : Option Refusal). not (is_some o)) c.requires.able))

pub returns-in-None-clause-put : goal.returns-in-None-clause-put
returns-in-None-clause-put g c =
    let dead = g.M.DeadMemory.dead c.args.dead.now in
    let r = records_left dead (g.M.WordSource.words c.args.dead.now) in
    tape_of_none r c.args.tty (dead.counts c.args.tty) c.args.own.now.lent.now c.args.own.now.lent.now c.requires.counted
    (λ byte flight. c.in-None.ensures.none byte (rw c.new.ensures flight))

pub returns-in-Some-clause-counted : goal.returns-in-Some-clause-counted
returns-in-Some-clause-counted g c =
    let own = c.args.own.now in
    either_way c.put.result _
    (on_ok c.put.result _ _ (λ e. one_counted own.lent.now c.put.new.self.lent.now c.args.tty _ e) c.put.ensures.ok)
    (on_err c.put.result _ _ (λ e. none_counted own.lent.now c.put.new.self.lent.now Store e) c.put.ensures.err)

pub returns-in-Some-clause-cause : goal.returns-in-Some-clause-cause
returns-in-Some-clause-cause g c =
    on_err c.put.result _ _ (λ e. refusal_stands c.args.own.now.lent.now c.put.new.self.lent.now Store c.requires.able e) c.put.ensures.err
