use Rattle.std.proofs.Common.{◌∙◌}
use Rattle.record_layouts.specs.Overlay.{area_at}
use Rattle.kernel_builder.proofs.Sets.{records_more, unrecorded_stay}
use Rattle.kernel_builder.proofs.Counts.{record_more, record_within}
use Rattle.kernel_builder.proofs.setting.set_records.Goals as goal

pub loop-number-preserved : goal.loop-number-preserved
loop-number-preserved g c =
    let old = area_at (g.S.WordSource.words c.loop-number.store) c.args.base in
    let new = area_at (g.S.WordSource.words c.set_record.new.store) c.args.base in
    let id = c.numbered_id-id.result in
    let there = c.numbered_id-id.ensures.there in
    let rec = c.record-rec.result in
    let set = c.in_ok-set_record.ensures.set in
    let law = c.records_lie_apart.ensures in
    record {
      able = c.in_ok-set_record.ensures.stays;
      records = records_more old new id rec there set (g.B.Blueprint.plan c.args.blueprint.now).record_of c.loop-number.number law.apart
          c.loop-number.invariant.records c.numbered_id-id.ensures.number c.record-rec.ensures.is;
      kept = unrecorded_stay old new id rec there set (law.changed id there) ∙ c.loop-number.invariant.kept;
      there = c.set_record.ensures.there;
      beside = c.set_record.ensures.beside ∙ c.loop-number.invariant.beside;
      rest = c.set_record.ensures.rest ∙ c.loop-number.invariant.rest;
      counted = record_more id c.loop-number.number (g.S.WordStore.made c.args.store.now) (g.S.WordStore.made c.loop-number.store)
          (g.S.WordStore.made c.set_record.new.store) there c.numbered_id-id.ensures.number c.loop-number.invariant.counted c.set_record.ensures.counted;
      place = c.set_record.ensures.place ∙ c.loop-number.invariant.place;
    }

pub returns-in_err-set_record-clause-counted : goal.returns-in_err-set_record-clause-counted
returns-in_err-set_record-clause-counted g c =
    record_within c.numbered_id-id.result c.loop-number.number (g.S.WordStore.made c.args.store.now) (g.S.WordStore.made c.loop-number.store)
    (g.S.WordStore.made c.set_record.new.store) c.numbered_id-id.ensures.there c.numbered_id-id.ensures.number c.loop-number.invariant.counted
    c.set_record.ensures.counted
