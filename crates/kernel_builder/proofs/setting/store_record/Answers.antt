use Rattle.std.proofs.Common.{arith}
use Rattle.record_layouts.specs.Overlay.{WordRange, area_at}
use Rattle.record_layouts.specs.declared.patch.PatchItem.{PatchItem}
use Rattle.word_store.proofs.Outcomes.{on_ok}
use Rattle.record_layouts.proofs.Items.{sets_item}
use Rattle.kernel_builder.proofs.Sets.{record_set}
use Rattle.kernel_builder.proofs.setting.store_record.Goals as goal

pub returns-clause-set : goal.returns-clause-set
returns-clause-set g c =
    let frame = c.address-frame.result.0 in
    let first = c.address-frame.result.1 in
    let range : WordRange = record { frame = frame; first = first; words = c.args.words.now } in
    let item : PatchItem = record { id = c.args.id; rec = c.args.rec.now } in
    let spells = sets_item item frame first c.args.words.now c.requires.item c.requires.spelled c.address-frame.ensures.number c.address-frame.ensures.place
    (c.records_lie_apart.ensures.changed c.args.id c.requires.item.there) in
    on_ok c.store_words.result _ _
    (record_set (area_at (g.S.WordSource.words c.args.store.now) c.args.base) (area_at (g.S.WordSource.words c.store_words.new.store) c.args.base) range item spells)
    c.store_words.ensures.words

pub returns-clause-counted : goal.returns-clause-counted
returns-clause-counted g c =
    let frame = c.address-frame.result.0 in
    let first = c.address-frame.result.1 in
    let item : PatchItem = record { id = c.args.id; rec = c.args.rec.now } in
    let spells = sets_item item frame first c.args.words.now c.requires.item c.requires.spelled c.address-frame.ensures.number c.address-frame.ensures.place
    (c.records_lie_apart.ensures.changed c.args.id c.requires.item.there) in
    omega (arith, spells.long, c.store_words.ensures.counted)
