use Rattle.record_layouts.specs.Parts.{item_of}
use Rattle.word_store.proofs.Outcomes.{if_ok}
use Rattle.intent_store.proofs.Payloads.{item-spelled}
use Rattle.intent_store.proofs.opening.store_part.Goals as goal

pub returns-clause-ok : goal.returns-clause-ok
returns-clause-ok g c =
    if_ok c.store_record.result _ _
    (λ after rec. item-spelled (item_of c.args.part.now) c.address-frame.result.0 c.address-frame.result.1 c.length_of.result _ _ _ c.args.spelled c.in_ok-spelled.spelled after
    c.requires.part c.address-frame.ensures.number c.address-frame.ensures.place (c.records_lie_apart.ensures.changed c.args.part.now.id c.requires.part.there) c.length_of.ensures
    c.in_ok-spelled.ensures.ok rec)
    c.store_record.ensures.ok
