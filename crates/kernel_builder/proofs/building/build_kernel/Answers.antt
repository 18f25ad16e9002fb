use Rattle.std.proofs.Common.{◌∙◌}
use Rattle.ow_base.specs.Sv32.{WordMap}
use Rattle.word_store.proofs.Outcomes.{on_ok}
use Rattle.kernel_builder.proofs.Built.{area_there, built, frames_there, outside_beside, outside_pool, pool_kept}
use Rattle.kernel_builder.proofs.Reading.{read_as_planned}
use Rattle.kernel_builder.proofs.building.build_kernel.Goals as goal

pub copy_pages-requires-clause-there : goal.copy_pages-requires-clause-there
copy_pages-requires-clause-there g c = pool_kept c.args.map.now _ _ c.requires.map c.set_area.ensures.beside

pub returns-clause-built : goal.returns-clause-built
returns-clause-built g c =
    on_ok c.copy_pages.result _ _
    (λ e. built c.args.map.now (g.B.Blueprint.plan c.args.blueprint.now) (g.S.WordSource.words c.args.store.now) (g.S.WordSource.words c.set_area.new.store)
    (g.S.WordSource.words c.copy_pages.new.store) c.requires.map c.in_ok-set_area.ensures.ok c.copy_pages.ensures.others e)
    c.copy_pages.ensures.ok

pub returns-clause-read : goal.returns-clause-read
returns-clause-read g c =
    let map = c.args.map.now in
    let plan = g.B.Blueprint.plan c.args.blueprint.now in
    let old : WordMap = g.S.WordSource.words c.args.store.now in
    let new : WordMap = g.S.WordSource.words c.copy_pages.new.store in
    on_ok c.copy_pages.result _ _
    (λ e. read_as_planned map plan old new c.requires.map.few
    (built map plan old (g.S.WordSource.words c.set_area.new.store) new c.requires.map c.in_ok-set_area.ensures.ok c.copy_pages.ensures.others e))
    c.copy_pages.ensures.ok

pub returns-in_err-set_area-clause-frames : goal.returns-in_err-set_area-clause-frames
returns-in_err-set_area-clause-frames g c =
    let new : WordMap = g.S.WordSource.words c.set_area.new.store in
    frames_there (g.S.WordSource.words c.args.store.now) new c.args.map.now c.requires.map c.set_area.ensures.there
    (pool_kept c.args.map.now _ new c.requires.map c.set_area.ensures.beside)

pub returns-clause-frames : goal.returns-clause-frames
returns-clause-frames g c =
    let old : WordMap = g.S.WordSource.words c.args.store.now in
    let some : WordMap = g.S.WordSource.words c.set_area.new.store in
    let new : WordMap = g.S.WordSource.words c.copy_pages.new.store in
    frames_there old new c.args.map.now c.requires.map
    (area_there old some new c.args.map.now c.requires.map c.set_area.ensures.there c.copy_pages.ensures.others)
    c.copy_pages.ensures.there

pub returns-in_err-set_area-clause-outside : goal.returns-in_err-set_area-clause-outside
returns-in_err-set_area-clause-outside g c = outside_beside c.args.map.now _ _ c.set_area.ensures.beside

pub returns-clause-outside : goal.returns-clause-outside
returns-clause-outside g c =
    outside_pool c.args.map.now (g.S.WordSource.words c.set_area.new.store) (g.S.WordSource.words c.copy_pages.new.store) c.copy_pages.ensures.others
    ∙ outside_beside c.args.map.now (g.S.WordSource.words c.args.store.now) (g.S.WordSource.words c.set_area.new.store) c.set_area.ensures.beside
