use Rattle.std.proofs.Common.{◌≡◌, true, map, take}
use Rattle.record_layouts.specs.Held.{beside}
use Rattle.record_layouts.specs.Parts.{item_of}
use Rattle.record_layouts.specs.Overlay.{HasArea, area_at}
use Rattle.intent_store.specs.Blocks.{IsShutLike}
use Rattle.intent_store.specs.Payloads.{IsPatchSpelled}
use Rattle.word_store.specs.Stores.{KeepsUnstored}
use Rattle.intent_store.proofs.opening.store_payload.Given as goal

-- the records so far are spelled
abbrev pub invariant-loop-part : goal.invariant-loop-part
invariant-loop-part g l =
    let words = g.W.WordSource.words in
    record {
      so_far : IsPatchSpelled (map item_of (take l.part-index l.part-items)) (area_at (words l.fn.store) l.base) (area_at (words l.store) l.base) l.fn.begun l.spelled;
      shut : IsShutLike (area_at (words l.fn.store) l.base) (area_at (words l.store) l.base);
      there : HasArea (words l.store) l.base;
      same_beside : beside l.base (words l.store) ≡ beside l.base (words l.fn.store);
      same_rest : g.W.WordStore.rest l.store ≡ g.W.WordStore.rest l.fn.store;
      able : g.W.WordStore.able l.store ≡ true;
      unstored : KeepsUnstored (g.W.WordStore.made l.fn.store) (g.W.WordStore.made l.store) (words l.fn.store) (words l.store);
      same_place : g.W.WordStore.place l.store ≡ g.W.WordStore.place l.fn.store;
    }
