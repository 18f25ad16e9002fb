use Rattle.std.proofs.Common.{rules, ◌≡◌, ◌+◌, ◌*◌, Some, sym, ap, ◌∙◌, arith}
use Rattle.record_layouts.specs.Held.{Records}
use Rattle.process_table.specs.Patches.{bank_of}
use Rattle.ow_plant.specs.State.{returned_to}
use Rattle.intent_store.specs.Live.{records_held}
use Rattle.kernel_traps.proofs.Stays.{view_is}
use Rattle.kernel_traps.proofs.Returning.{area_small, goes_soundly, goes_to}
use Rattle.kernel_traps.proofs.user.return_to.Goals as goal

pub to_user-requires-clause-root : goal.to_user-requires-clause-root
to_user-requires-clause-root c =
    let base = c.area_base.ensures.base ∙ ap (λ (r : Records). r.map.area_base) (view_is c.args.plant.now c.live_records-view.result.source.now c.live_records-view.result.map
    c.live_records-view.ensures.source c.live_records-view.ensures.map) in
    omega (arith, area_small c.args.plant.now c.area_base.result c.requires.sound base, c.requires.process.1.there.within)

pub returns : goal.returns
returns c =
    let s = c.args.plant.now in
    let found = c.unwrap-process.result in
    let is = c.requires.process.1 in
    let view = view_is s c.live_records-view.result.source.now c.live_records-view.result.map c.live_records-view.ensures.source c.live_records-view.ensures.map in
    let reads : (records_held s).procs c.args.slot ≡ Some found =
    ap (λ (r : Records). r.procs c.args.slot) (sym view) ∙ (sym c.proc.ensures.record ∙ c.unwrap-process.ensures) in
    let base : c.area_base.result ≡ (records_held s).map.area_base = c.area_base.ensures.base ∙ ap (λ (r : Records). r.map.area_base) view in
    let loads : c.to_user.new.self ≡ returned_to s found.pid (bank_of found) (c.area_base.result + 16 + 3 * c.args.slot) = search rules in
    record {
      returned = goes_to s c.to_user.new.self c.args.slot c.area_base.result c.requires.process.0 found c.requires.sound is reads base loads c.requires.in_kernel;
      sound = goes_soundly s c.to_user.new.self c.args.slot c.area_base.result c.requires.process.0 found c.requires.sound is reads base loads;
    }
