use Rattle.std.proofs.Common.{ap, ◌∙◌}
use Rattle.record_layouts.specs.Overlay.{Area, area_at}
use Rattle.word_store.proofs.Outcomes.{on_ok}
use Rattle.kernel_builder.specs.Sets.{with_owners}
use Rattle.kernel_builder.proofs.Built.{filled}
use Rattle.kernel_builder.proofs.building.set_area.Goals as goal

pub returns-clause-ok : goal.returns-clause-ok
returns-clause-ok g c =
    let map = c.args.map.now in
    let plan = g.B.Blueprint.plan c.args.blueprint.now in
    let old = area_at (g.S.WordSource.words c.args.store.now) map.area_base in
    let opened = area_at (g.S.WordSource.words c.store_area.new.store) map.area_base in
    let set = area_at (g.S.WordSource.words c.set_records.new.store) map.area_base in
    on_ok c.set_owners.result _ _
    (λ e. filled map plan old opened set c.in_ok-set_records.ensures.records c.in_ok-store_area.ensures.ok c.in_ok-set_records.ensures.kept
    (area_at (g.S.WordSource.words c.set_owners.new.store) map.area_base)
    (e ∙ ap (λ (a : Area). with_owners map plan a 1024) c.in_ok-set_tables.ensures.ok))
    c.set_owners.ensures.ok
