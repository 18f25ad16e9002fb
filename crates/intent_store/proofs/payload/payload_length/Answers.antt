use Rattle.std.proofs.Common.{◌≡◌, ◌+◌, ◌<◌, ◌∙◌, List, [], ◌∷◌, ◌++◌, sym, ap, map, take, length, arith}
use Rattle.std.proofs.lemmas.List.{map_more, take_all}
use Rattle.record_layouts.specs.declared.patch.PatchPart.{PatchPart}
use Rattle.record_layouts.specs.Parts.{item_of}
use Rattle.record_layouts.specs.Places.{length_of}
use Rattle.intent_store.proofs.Payloads.{length_of-most, payload-length, spelled_length, spelled_length-none, spelled_length-push}
use Rattle.intent_store.proofs.payload.payload_length.Goals as goal

pub loop-part-init : goal.loop-part-init
loop-part-init c = record { counted = sym spelled_length-none; few = omega arith }

pub loop-part-preserved : goal.loop-part-preserved
loop-part-preserved c =
    let parts = c.parts-part-items.result.now in
    let index = c.loop-part.part-index in
    let there : index < length parts = omega arith in
    let taken : map item_of (take (index + 1) parts) ≡ map item_of (take index parts) ++ item_of c.part-item.result ∷ [] =
    map_more item_of parts index c.part-item.result there ∙ ap (λ (x : PatchPart). map item_of (take index parts) ++ item_of x ∷ []) (sym c.part-item.is) in
    let long : c.length_of.result ≡ length_of c.part-item.result.id = c.length_of.ensures in
    let more = ap spelled_length taken ∙ spelled_length-push (map item_of (take index parts)) (item_of c.part-item.result) in
    record {
      counted = omega (arith, c.loop-part.invariant.counted, long, more);
      few = omega (arith, c.loop-part.invariant.few, long, length_of-most c.part-item.result.id);
    }

pub returns-clause-exact : goal.returns-clause-exact
returns-clause-exact c =
    let parts = c.parts-part-items.result.now in
    let all : take c.loop-part.part-index parts ≡ parts = take_all c.loop-part.part-index parts (omega arith) in
    λ payload is. payload-length _ payload is ∙ ap spelled_length (sym c.parts-part-items.ensures.value) ∙ ap (λ (xs : List PatchPart). spelled_length (map item_of xs)) (sym all) ∙ sym c.loop-part.invariant.counted

pub returns-clause-fits : goal.returns-clause-fits
returns-clause-fits c = omega (arith, c.loop-part.invariant.few)
