use Rattle.std.proofs.Common.{◌≡◌, ◌-◌, true}
use Rattle.record_layouts.specs.Held.{beside}
use Rattle.record_layouts.specs.Overlay.{HasArea, area_at}
use Rattle.intent_store.specs.Blocks.{partly_changed}
use Rattle.word_store.specs.Stores.{KeepsUnstored}
use Rattle.intent_store.proofs.copying.copy_change.Given as goal

-- the words before this one are in their places
abbrev pub invariant-loop-number : goal.invariant-loop-number
invariant-loop-number g l =
    let words = g.W.WordSource.words in
    record {
      copied : area_at (words l.store) l.base ≡ partly_changed l.change (l.number - l.change.span.begin) (area_at (words l.fn.store) l.base);
      there : HasArea (words l.store) l.base;
      same_beside : beside l.base (words l.store) ≡ beside l.base (words l.fn.store);
      same_rest : g.W.WordStore.rest l.store ≡ g.W.WordStore.rest l.fn.store;
      able : g.W.WordStore.able l.store ≡ true;
      unstored : KeepsUnstored (g.W.WordStore.made l.fn.store) (g.W.WordStore.made l.store) (words l.fn.store) (words l.store);
      same_place : g.W.WordStore.place l.store ≡ g.W.WordStore.place l.fn.store;
    }
