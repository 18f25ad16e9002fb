use Rattle.std.proofs.Common.{◌==◌, ◌∙◌}
use Rattle.phys_memory.specs.Memory.{words_of}
use Rattle.record_layouts.specs.Reading.{records_in, records_of}
use Rattle.word_store.proofs.Outcomes.{on_ok, on_err, either_way}
use Rattle.intent_store.proofs.Direct.{held_stored, standing_same, standing_stored, word_alone}
use Rattle.intent_store.proofs.Unstored.{unstored_held}
use Rattle.intent_store.proofs.live.LiveWriter.direct_word.Goals as goal

pub returns-clause-ok : goal.returns-clause-ok
unfolding records_of records_in
returns-clause-ok c =
    let s = c.args.self.now.plant.now in
    let t = c.store.new.self.plant.now in
    on_ok c.store.result _ _ (λ e. held_stored s t c.args.frame (λ w. w == c.args.word) (λ w. c.args.value) c.requires.stands.armed.few_frames c.store.ensures.rest c.requires.direct.direct
    (e ∙ word_alone (words_of s.memory) c.args.frame c.args.word c.args.value c.requires.direct.within)) c.store.ensures.ok

pub returns-clause-still_stands : goal.returns-clause-still_stands
unfolding records_of records_in
returns-clause-still_stands c =
    let s = c.args.self.now.plant.now in
    let t = c.store.new.self.plant.now in
    either_way c.store.result _
    (on_ok c.store.result _ _ (λ e. standing_stored s t c.args.frame (λ w. w == c.args.word) (λ w. c.args.value) c.requires.stands.armed.few_frames c.store.ensures.rest c.requires.direct.direct
    (e ∙ word_alone (words_of s.memory) c.args.frame c.args.word c.args.value c.requires.direct.within) c.requires.stands) c.store.ensures.ok)
    (on_err c.store.result _ _ (λ e. standing_same s t c.store.ensures.rest e c.requires.stands) c.store.ensures.err)

pub returns-clause-unstored : goal.returns-clause-unstored
returns-clause-unstored c = unstored_held c.args.self.now.plant.now c.store.new.self.plant.now c.store.ensures.rest c.store.ensures.unstored
