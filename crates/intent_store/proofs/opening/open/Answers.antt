use Rattle.std.proofs.Common.{◌∙◌, ap, subst, sym, arith}
use Rattle.ow_base.specs.Words.{updated}
use Rattle.record_layouts.specs.Overlay.{Area, area_at}
use Rattle.intent_store.specs.Blocks.{IsShutLike}
use Rattle.word_store.proofs.Outcomes.{at_err}
use Rattle.intent_store.proofs.Openings.{shut-more}
use Rattle.intent_store.proofs.Payloads.{patch-opened}
use Rattle.intent_store.proofs.opening.open.Goals as goal

pub returns-in_err-store_area-2-clause-err : goal.returns-in_err-store_area-2-clause-err
returns-in_err-store_area-2-clause-err g c =
    let old = area_at (g.W.WordSource.words c.args.store.now) c.args.base in
    let sealed = shut-more old _ 1023 c.in_ok-spelled.spelled.seal c.store_payload.ensures.shut (omega arith) (omega arith) in
    at_err c.from_residual-in_err-store_area-2.result _
    (subst (λ (a : Area). IsShutLike old a) (sym (c.in_err-store_area-2.ensures.err ∙ c.in_ok-store_area.ensures.ok)) sealed)

pub returns-clause-ok : goal.returns-clause-ok
returns-clause-ok g c =
    patch-opened c.args.patch.now (area_at (g.W.WordSource.words c.args.store.now) c.args.base) _ _ c.payload_length-count.result c.seal.result c.in_ok-spelled.spelled
    c.in_ok-spelled.ensures.ok c.payload_length-count.ensures.exact c.payload_length-count.ensures.fits c.seal.ensures
    (c.in_ok-store_area-2.ensures.ok ∙ ap (λ (a : Area). updated a 16 c.payload_length-count.result) c.in_ok-store_area.ensures.ok)
