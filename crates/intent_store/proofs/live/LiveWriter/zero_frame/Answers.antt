use Rattle.std.proofs.Common.{nat_lt}
use Rattle.record_layouts.specs.Reading.{records_in, records_of}
use Rattle.word_store.proofs.Outcomes.{on_ok, on_err, either_way}
use Rattle.intent_store.proofs.Direct.{held_stored, standing_stored}
use Rattle.intent_store.proofs.Unstored.{unstored_held}
use Rattle.intent_store.proofs.live.LiveWriter.zero_frame.Goals as goal

pub returns-clause-ok : goal.returns-clause-ok
unfolding records_of records_in
returns-clause-ok c =
    let s = c.args.self.now.plant.now in
    let t = c.zero_frame.new.store.plant.now in
    on_ok c.zero_frame.result _ _ (λ e. held_stored s t c.args.frame (λ w. nat_lt w 1024) (λ w. 0) c.requires.stands.armed.few_frames c.zero_frame.ensures.rest c.requires.frame.direct e) c.zero_frame.ensures.ok

pub returns-clause-err : goal.returns-clause-err
unfolding records_of records_in
returns-clause-err c =
    let s = c.args.self.now.plant.now in
    let t = c.zero_frame.new.store.plant.now in
    on_err c.zero_frame.result _ _ (λ b. (b.0, b.1, held_stored s t c.args.frame (λ w. nat_lt w b.0) (λ w. 0) c.requires.stands.armed.few_frames c.zero_frame.ensures.rest c.requires.frame.direct b.2)) c.zero_frame.ensures.err

pub returns-clause-still_stands : goal.returns-clause-still_stands
unfolding records_of records_in
returns-clause-still_stands c =
    let s = c.args.self.now.plant.now in
    let t = c.zero_frame.new.store.plant.now in
    either_way c.zero_frame.result _
    (on_ok c.zero_frame.result _ _ (λ e. standing_stored s t c.args.frame (λ w. nat_lt w 1024) (λ w. 0) c.requires.stands.armed.few_frames c.zero_frame.ensures.rest c.requires.frame.direct e c.requires.stands) c.zero_frame.ensures.ok)
    (on_err c.zero_frame.result _ _ (λ b. standing_stored s t c.args.frame (λ w. nat_lt w b.0) (λ w. 0) c.requires.stands.armed.few_frames c.zero_frame.ensures.rest c.requires.frame.direct b.2 c.requires.stands) c.zero_frame.ensures.err)

pub returns-clause-unstored : goal.returns-clause-unstored
returns-clause-unstored c = unstored_held c.args.self.now.plant.now c.zero_frame.new.store.plant.now c.zero_frame.ensures.rest c.zero_frame.ensures.unstored
