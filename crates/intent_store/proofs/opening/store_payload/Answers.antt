use Rattle.std.proofs.Common.{◌≡◌, ℕ, ◌+◌, ◌<◌, ◌∙◌, List, [], ◌∷◌, ◌++◌, sym, subst, ap, refl, map, take, length, get_or, All, arith}
use Rattle.std.proofs.lemmas.List.{get_or-map, length-map, map_more}
use Rattle.std.proofs.lemmas.List.Elements.{All-get_or}
use Rattle.record_layouts.specs.declared.patch.PatchPart.{PatchPart}
use Rattle.record_layouts.specs.Parts.{item_of}
use Rattle.record_layouts.specs.Patch.{IsPatchItem}
use Rattle.record_layouts.specs.Overlay.{area_at}
use Rattle.intent_store.specs.Payloads.{IsPatchSpelled}
use Rattle.intent_store.proofs.Openings.{shut-first, shut-then}
use Rattle.intent_store.proofs.Payloads.{patch-more, patch-none}
use Rattle.intent_store.proofs.Words.{unstored_same, unstored_then}
use Rattle.intent_store.proofs.opening.store_payload.Goals as goal

-- each record of a patch can be put where it is to stand
all_mapped : (parts : List PatchPart) (index : ℕ) (part : PatchPart) → index < length parts → All IsPatchItem (map item_of parts)
    → IsPatchItem (item_of (get_or parts index part))
all_mapped parts index part there each =
    subst IsPatchItem (get_or-map item_of parts index part (item_of part) there)
    (All-get_or IsPatchItem (map item_of parts) index (item_of part) (omega (arith, length-map parts item_of)) each)

pub loop-part-init : goal.loop-part-init
loop-part-init g c = record {
  so_far = patch-none _ c.args.begun;
  shut = shut-first _ c.requires.shut;
  there = c.requires.area;
  same_beside = refl;
  same_rest = refl;
  able = c.requires.able;
  unstored = unstored_same _ _;
  same_place = refl;
}

pub store_part-requires-clause-part : goal.store_part-requires-clause-part
store_part-requires-clause-part g c =
    let parts = c.parts-part-items.result.now in
    let index = c.loop-part.part-index in
    let there : index < length parts = omega arith in
    let each : All IsPatchItem (map item_of parts) = subst (All IsPatchItem) (sym c.parts-part-items.ensures.value) c.requires.patch.each in
    subst (λ (x : PatchPart). IsPatchItem (item_of x)) (sym c.part-item.is) (all_mapped parts index c.part-item.result there each)

pub loop-part-preserved : goal.loop-part-preserved
loop-part-preserved g c =
    let parts = c.parts-part-items.result.now in
    let index = c.loop-part.part-index in
    let there : index < length parts = omega arith in
    let taken : map item_of (take (index + 1) parts) ≡ map item_of (take index parts) ++ item_of c.part-item.result ∷ [] =
    map_more item_of parts index c.part-item.result there ∙ ap (λ (x : PatchPart). map item_of (take index parts) ++ item_of x ∷ []) (sym c.part-item.is) in
    let old = area_at (g.W.WordSource.words c.args.store.now) c.args.base in
    let new = area_at (g.W.WordSource.words c.store_part.new.store) c.args.base in
    let more = patch-more (map item_of (take index parts)) (item_of c.part-item.result) old _ new c.args.begun c.loop-part.spelled c.in_ok-spelled.spelled c.loop-part.invariant.so_far c.in_ok-spelled.ensures.ok in
    record {
      so_far = subst (λ xs. IsPatchSpelled xs old new c.args.begun c.in_ok-spelled.spelled) (sym taken) more;
      shut = shut-then old _ new c.loop-part.invariant.shut c.store_part.ensures.shut;
      there = c.store_part.ensures.there;
      same_beside = c.store_part.ensures.beside ∙ c.loop-part.invariant.same_beside;
      same_rest = c.store_part.ensures.rest ∙ c.loop-part.invariant.same_rest;
      able = c.in_ok-spelled.ensures.stays;
      unstored = unstored_then _ _ _ _ _ _ c.loop-part.invariant.unstored c.store_part.ensures.unstored;
      same_place = c.store_part.ensures.place ∙ c.loop-part.invariant.same_place;
    }
