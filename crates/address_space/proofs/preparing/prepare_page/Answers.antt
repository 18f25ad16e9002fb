use Rattle.std.proofs.Common.{sym, ap, ◌∙◌, subst}
use Rattle.record_layouts.specs.Held.{Held, held_by}
use Rattle.address_space.specs.Preparing.{IsPageBegun}
use Rattle.address_space.specs.Spaces.{OnlyPrepares}
use Rattle.address_space.proofs.UserFrames.{user_apart}
use Rattle.address_space.proofs.Outcomes.{at_err, either_way, on_err, on_ok}
use Rattle.address_space.proofs.PagesPrepared.{filled_begun, filled_prepares, first_prepares, page_prepared, second_begun, second_prepares, still_within, third_prepares}
use Rattle.address_space.proofs.preparing.prepare_page.Goals as goal

pub returns-in_err-fill_frame-clause-err : goal.returns-in_err-fill_frame-clause-err
returns-in_err-fill_frame-clause-err g c =
    let held = held_by g.W.RecordView.records g.W.WordSource.words g.W.Writer.disk g.W.Writer.rest in
    let of = g.met.W.Writer.of_memory c.args.live.now c.requires.stands in
    let partly = c.in_err-fill_frame.ensures.err in
    at_err c.from_residual.result _ (filled_begun (held c.args.live.now) (held c.fill_frame.new.live) c.args.number c.args.source partly.0
    (user_apart _ _ of c.args.number) partly.2)

pub returns-in_err-fill_frame-clause-prepares : goal.returns-in_err-fill_frame-clause-prepares
returns-in_err-fill_frame-clause-prepares g c =
    let held = held_by g.W.RecordView.records g.W.WordSource.words g.W.Writer.disk g.W.Writer.rest in
    let of = g.met.W.Writer.of_memory c.args.live.now c.requires.stands in
    let partly = c.in_err-fill_frame.ensures.err in
    filled_prepares (held c.args.live.now) (held c.fill_frame.new.live) c.args.number c.args.source partly.0
    (user_apart _ _ of c.args.number) partly.2 c.args.slot c.requires.can.within c.requires.can.free

pub claim_frame-requires-clause-within : goal.claim_frame-requires-clause-within
claim_frame-requires-clause-within g c =
    let held = held_by g.W.RecordView.records g.W.WordSource.words g.W.Writer.disk g.W.Writer.rest in
    let of = g.met.W.Writer.of_memory c.args.live.now c.requires.stands in
    still_within (held c.args.live.now) (held c.fill_frame.new.live) c.args.slot c.args.page c.args.number c.args.source c.requires.can of.few
    (user_apart _ _ of c.args.number) c.in_ok-fill_frame.ensures.ok

pub returns-in_err-claim_frame-clause-err : goal.returns-in_err-claim_frame-clause-err
returns-in_err-claim_frame-clause-err g c =
    let held = held_by g.W.RecordView.records g.W.WordSource.words g.W.Writer.disk g.W.Writer.rest in
    let of = g.met.W.Writer.of_memory c.args.live.now c.requires.stands in
    at_err c.from_residual-in_err-claim_frame.result _ (subst (λ (x : Held g.W.Writer.Rest). IsPageBegun (held c.args.live.now) x c.args.number)
    (sym c.in_err-claim_frame.ensures.err)
    (filled_begun (held c.args.live.now) (held c.fill_frame.new.live) c.args.number c.args.source 1024
    (user_apart _ _ of c.args.number) c.in_ok-fill_frame.ensures.ok))

pub returns-in_err-claim_frame-clause-prepares : goal.returns-in_err-claim_frame-clause-prepares
returns-in_err-claim_frame-clause-prepares g c =
    let held = held_by g.W.RecordView.records g.W.WordSource.words g.W.Writer.disk g.W.Writer.rest in
    let of = g.met.W.Writer.of_memory c.args.live.now c.requires.stands in
    subst (λ (x : Held g.W.Writer.Rest). OnlyPrepares c.args.slot (held c.args.live.now) x)
    (sym c.in_err-claim_frame.ensures.err)
    (first_prepares (held c.args.live.now) (held c.fill_frame.new.live) c.args.slot c.args.page c.args.number c.args.source c.requires.can of.few
    (user_apart _ _ of c.args.number) c.in_ok-fill_frame.ensures.ok)

pub returns-in_err-claim_frame-clause-allowed : goal.returns-in_err-claim_frame-clause-allowed
returns-in_err-claim_frame-clause-allowed g c =
    let held = held_by g.W.RecordView.records g.W.WordSource.words g.W.Writer.disk g.W.Writer.rest in
    let of = g.met.W.Writer.of_memory c.args.live.now c.requires.stands in
    let one = first_prepares (held c.args.live.now) (held c.fill_frame.new.live) c.args.slot c.args.page c.args.number c.args.source c.requires.can of.few
    (user_apart _ _ of c.args.number) c.in_ok-fill_frame.ensures.ok in
    at_err c.from_residual-in_err-claim_frame.result _ (ap g.W.Writer.may_refuse (sym one.rest) ∙ c.in_err-claim_frame.ensures.allowed)

pub enter_page-requires-clause-within : goal.enter_page-requires-clause-within
enter_page-requires-clause-within g c =
    let held = held_by g.W.RecordView.records g.W.WordSource.words g.W.Writer.disk g.W.Writer.rest in
    let of = g.met.W.Writer.of_memory c.args.live.now c.requires.stands in
    let two = second_prepares (held c.args.live.now) (held c.fill_frame.new.live) c.args.slot c.args.page c.args.number c.args.source c.requires.can of.few
    (user_apart _ _ of c.args.number) c.in_ok-fill_frame.ensures.ok (held c.claim_frame.new.live) c.in_ok-claim_frame.ensures.ok in
    rw two.pages.records.map c.requires.can.within

pub returns-clause-ok : goal.returns-clause-ok
returns-clause-ok g c =
    let held = held_by g.W.RecordView.records g.W.WordSource.words g.W.Writer.disk g.W.Writer.rest in
    let of = g.met.W.Writer.of_memory c.args.live.now c.requires.stands in
    on_ok c.enter_page.result _ _
    (page_prepared (held c.args.live.now) (held c.fill_frame.new.live) c.args.slot c.args.page c.args.number c.args.source c.requires.can of.few
    (user_apart _ _ of c.args.number) c.in_ok-fill_frame.ensures.ok (held c.claim_frame.new.live) c.in_ok-claim_frame.ensures.ok
    (held c.enter_page.new.live) c.args.rights)
    c.enter_page.ensures.ok

pub returns-clause-err : goal.returns-clause-err
returns-clause-err g c =
    let held = held_by g.W.RecordView.records g.W.WordSource.words g.W.Writer.disk g.W.Writer.rest in
    let of = g.met.W.Writer.of_memory c.args.live.now c.requires.stands in
    on_err c.enter_page.result _ _
    (λ same. subst (λ (x : Held g.W.Writer.Rest). IsPageBegun (held c.args.live.now) x c.args.number) (sym same)
    (second_begun (held c.args.live.now) (held c.fill_frame.new.live) c.args.slot c.args.page c.args.number c.args.source c.requires.can of.few
    (user_apart _ _ of c.args.number) c.in_ok-fill_frame.ensures.ok (held c.claim_frame.new.live) c.in_ok-claim_frame.ensures.ok))
    c.enter_page.ensures.err

pub returns-clause-prepares : goal.returns-clause-prepares
returns-clause-prepares g c =
    let held = held_by g.W.RecordView.records g.W.WordSource.words g.W.Writer.disk g.W.Writer.rest in
    let of = g.met.W.Writer.of_memory c.args.live.now c.requires.stands in
    either_way c.enter_page.result _
    (on_ok c.enter_page.result _ _
    (third_prepares (held c.args.live.now) (held c.fill_frame.new.live) c.args.slot c.args.page c.args.number c.args.source c.requires.can of.few
    (user_apart _ _ of c.args.number) c.in_ok-fill_frame.ensures.ok (held c.claim_frame.new.live) c.in_ok-claim_frame.ensures.ok
    (held c.enter_page.new.live) c.args.rights)
    c.enter_page.ensures.ok)
    (on_err c.enter_page.result _ _
    (λ same. subst (λ (x : Held g.W.Writer.Rest). OnlyPrepares c.args.slot (held c.args.live.now) x) (sym same)
    (second_prepares (held c.args.live.now) (held c.fill_frame.new.live) c.args.slot c.args.page c.args.number c.args.source c.requires.can of.few
    (user_apart _ _ of c.args.number) c.in_ok-fill_frame.ensures.ok (held c.claim_frame.new.live) c.in_ok-claim_frame.ensures.ok))
    c.enter_page.ensures.err)

pub returns-clause-allowed : goal.returns-clause-allowed
returns-clause-allowed g c =
    let held = held_by g.W.RecordView.records g.W.WordSource.words g.W.Writer.disk g.W.Writer.rest in
    let of = g.met.W.Writer.of_memory c.args.live.now c.requires.stands in
    let two = second_prepares (held c.args.live.now) (held c.fill_frame.new.live) c.args.slot c.args.page c.args.number c.args.source c.requires.can of.few
    (user_apart _ _ of c.args.number) c.in_ok-fill_frame.ensures.ok (held c.claim_frame.new.live) c.in_ok-claim_frame.ensures.ok in
    on_err c.enter_page.result _ _ (λ may. ap g.W.Writer.may_refuse (sym two.rest) ∙ may) c.enter_page.ensures.allowed
