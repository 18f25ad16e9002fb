use Rattle.std.proofs.Common.{◌∙◌, ℕ, nat_lt, ap}
use Rattle.ow_base.specs.Sv32.{word_or_zero}
use Rattle.phys_memory.specs.Memory.{words_of}
use Rattle.record_layouts.specs.Held.{with_words}
use Rattle.intent_store.specs.Live.{held_of, map_of}
use Rattle.record_layouts.specs.Reading.{records_in, records_of}
use Rattle.word_store.proofs.Outcomes.{on_ok, on_err, either_way}
use Rattle.intent_store.proofs.Direct.{beside_is, held_stored, standing_stored}
use Rattle.intent_store.proofs.Unstored.{unstored_held}
use Rattle.intent_store.proofs.live.LiveWriter.copy_frame.Goals as goal

pub returns-clause-ok : goal.returns-clause-ok
unfolding records_of records_in
returns-clause-ok c =
    let s = c.args.self.now.plant.now in
    let t = c.copy_frame.new.store.plant.now in
    on_ok c.copy_frame.result _ _ (λ e. held_stored s t c.args.to (λ w. nat_lt w 1024) (λ w. word_or_zero (words_of s.memory c.args.from w)) c.requires.stands.armed.few_frames c.copy_frame.ensures.rest c.requires.to.direct e
    ∙ ap (λ (v : ℕ → ℕ). with_words (held_of s) c.args.to (λ w. nat_lt w 1024) v) (beside_is (words_of s.memory) (map_of s).area_base c.args.from c.requires.from.beside)) c.copy_frame.ensures.ok

pub returns-clause-err : goal.returns-clause-err
unfolding records_of records_in
returns-clause-err c =
    let s = c.args.self.now.plant.now in
    let t = c.copy_frame.new.store.plant.now in
    on_err c.copy_frame.result _ _ (λ b. (
      b.0,
      b.1,
      held_stored s t c.args.to (λ w. nat_lt w b.0) (λ w. word_or_zero (words_of s.memory c.args.from w)) c.requires.stands.armed.few_frames c.copy_frame.ensures.rest c.requires.to.direct b.2
          ∙ ap (λ (v : ℕ → ℕ). with_words (held_of s) c.args.to (λ w. nat_lt w b.0) v) (beside_is (words_of s.memory) (map_of s).area_base c.args.from c.requires.from.beside),
    )) c.copy_frame.ensures.err

pub returns-clause-still_stands : goal.returns-clause-still_stands
unfolding records_of records_in
returns-clause-still_stands c =
    let s = c.args.self.now.plant.now in
    let t = c.copy_frame.new.store.plant.now in
    either_way c.copy_frame.result _
    (on_ok c.copy_frame.result _ _ (λ e. standing_stored s t c.args.to (λ w. nat_lt w 1024) (λ w. word_or_zero (words_of s.memory c.args.from w)) c.requires.stands.armed.few_frames c.copy_frame.ensures.rest c.requires.to.direct e c.requires.stands) c.copy_frame.ensures.ok)
    (on_err c.copy_frame.result _ _ (λ b. standing_stored s t c.args.to (λ w. nat_lt w b.0) (λ w. word_or_zero (words_of s.memory c.args.from w)) c.requires.stands.armed.few_frames c.copy_frame.ensures.rest c.requires.to.direct b.2 c.requires.stands) c.copy_frame.ensures.err)

pub returns-clause-unstored : goal.returns-clause-unstored
returns-clause-unstored c = unstored_held c.args.self.now.plant.now c.copy_frame.new.store.plant.now c.copy_frame.ensures.rest c.copy_frame.ensures.unstored
