use Rattle.std.proofs.Common.{ap, subst, sym, ◌∙◌}
use Rattle.ow_base.specs.Sv32.{WordMap}
use Rattle.record_layouts.specs.Held.{beside}
use Rattle.record_layouts.specs.Overlay.{HasArea, area_at}
use Rattle.word_store.proofs.Outcomes.{on_ok, on_err, either_way}
use Rattle.word_store.proofs.Stores.{area_at-set, has_area-set, beside-set}
use Rattle.word_store.proofs.storing.store_area.Goals as goal

pub returns-clause-ok : goal.returns-clause-ok
returns-clause-ok g c =
    on_ok c.store.result _ _ (λ e. ap (λ (ws : WordMap). area_at ws c.args.base) e ∙ area_at-set (g.W.WordSource.words c.args.store.now) c.args.base c.args.number c.args.value) c.store.ensures.ok

pub returns-clause-there : goal.returns-clause-there
returns-clause-there g c =
    let has = has_area-set (g.W.WordSource.words c.args.store.now) c.args.base c.args.number c.args.value c.requires.area in
    either_way c.store.result _
    (on_ok c.store.result _ _ (λ e. subst (λ (ws : WordMap). HasArea ws c.args.base) (sym e) has) c.store.ensures.ok)
    (on_err c.store.result _ _ (λ e. subst (λ (ws : WordMap). HasArea ws c.args.base) (sym e) c.requires.area) c.store.ensures.err)

pub returns-clause-beside : goal.returns-clause-beside
returns-clause-beside g c =
    let same = beside-set (g.W.WordSource.words c.args.store.now) c.args.base c.args.number c.args.value c.requires.number in
    either_way c.store.result _
    (on_ok c.store.result _ _ (λ e. ap (λ (ws : WordMap). beside c.args.base ws) e ∙ same) c.store.ensures.ok)
    (on_err c.store.result _ _ (λ e. ap (λ (ws : WordMap). beside c.args.base ws) e) c.store.ensures.err)
