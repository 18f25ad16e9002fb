use Rattle.std.proofs.Common.{is_some, ap, ◌∙◌}
use Rattle.phys_memory.specs.Halves.{words_from}
use Rattle.ow_plant.specs.Lent.{LentState}
use Rattle.ow_plant.specs.declared.own_half.OwnPlace.{OwnPlace}
use Rattle.word_store.proofs.Outcomes.{on_ok, told_by}
use Rattle.word_store.proofs.Owned.{among_there, refused_of_own, words_set}
use Rattle.word_store.proofs.own.OwnWordStore.store.Goals as goal

pub returns-clause-ok : goal.returns-clause-ok
returns-clause-ok c =
    let own = c.args.self.now in
    let there = among_there own.place.first own.lent.now.own c.args.frame c.args.word c.requires.there in
    on_ok c.store.result _ _ (λ e. ap (λ (place : OwnPlace). words_from place.first c.store.new.self.lent.now.own) c.store.ensures.place ∙ ap (λ (lent : LentState). words_from own.place.first lent.own) e ∙ words_set own.place.first own.lent.now.own c.args.frame c.args.word c.args.value there c.requires.word) c.store.ensures.ok

pub returns-clause-allowed : goal.returns-clause-allowed
returns-clause-allowed c =
    let own = c.args.self.now in
    told_by c.store.result _ _ c.store.ensures.exact (refused_of_own own.place.points.now own.place.trap own.lent.now.stores (is_some own.lent.now.refusal) c.requires.able)
