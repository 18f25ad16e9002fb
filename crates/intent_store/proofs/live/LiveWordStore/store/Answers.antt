use Rattle.std.proofs.Common.{◌<◌, ◌∙◌, ap}
use Rattle.ow_plant.specs.State.{PlantState}
use Rattle.phys_memory.specs.Memory.{frame_count, words_of}
use Rattle.intent_store.specs.Live.{rest_of}
use Rattle.word_store.proofs.Outcomes.{on_ok, on_err, either_way, told_by}
use Rattle.intent_store.proofs.Plants.{frame_there, refused_in_trap, rest_stored, words_stored}
use Rattle.intent_store.proofs.live.LiveWordStore.store.Goals as goal

pub store-requires-clause-frame : goal.store-requires-clause-frame
store-requires-clause-frame c = frame_there c.args.self.now.plant.now.memory c.args.frame c.args.word c.requires.there

pub returns-clause-ok : goal.returns-clause-ok
returns-clause-ok c =
    let s = c.args.self.now.plant.now in
    let there : c.args.frame < frame_count s.memory = frame_there s.memory c.args.frame c.args.word c.requires.there in
    on_ok c.store.result _ _ (λ e. ap (λ (p : PlantState). words_of p.memory) e ∙ words_stored s.memory c.args.frame c.args.word c.args.value there c.requires.word) c.store.ensures.ok

pub returns-clause-rest : goal.returns-clause-rest
returns-clause-rest c =
    let s = c.args.self.now.plant.now in
    either_way c.store.result _
    (on_ok c.store.result _ _ (λ e. ap (λ (p : PlantState). rest_of p) e ∙ rest_stored s c.args.frame c.args.word c.args.value) c.store.ensures.ok)
    (on_err c.store.result _ _ (λ e. ap (λ (p : PlantState). rest_of p) e) c.store.ensures.err)

pub returns-clause-allowed : goal.returns-clause-allowed
returns-clause-allowed c = told_by c.store.result _ _ c.store.ensures.exact (refused_in_trap c.args.self.now.plant.now c.requires.able)
