use Rattle.std.proofs.Common.{◌≡◌, ◌-◌, true}
use Rattle.record_layouts.specs.Held.{beside}
use Rattle.record_layouts.specs.Overlay.{HasArea, area_at}
use Rattle.intent_store.proofs.Changes.{IsCopying}
use Rattle.word_store.specs.Stores.{KeepsUnstored}
use Rattle.intent_store.proofs.copying.copy_changes.Given as goal

-- the ranges of the payload before this place are in their places
abbrev pub invariant-loop-change : goal.invariant-loop-change
invariant-loop-change g l =
    let words = g.W.WordSource.words in
    record {
      copying : IsCopying (area_at (words l.fn.store) l.base) (area_at (words l.store) l.base) l.place l.end;
      there : HasArea (words l.store) l.base;
      same_beside : beside l.base (words l.store) ≡ beside l.base (words l.fn.store);
      same_rest : g.W.WordStore.rest l.store ≡ g.W.WordStore.rest l.fn.store;
      able : g.W.WordStore.able l.store ≡ true;
      unstored : KeepsUnstored (g.W.WordStore.made l.fn.store) (g.W.WordStore.made l.store) (words l.fn.store) (words l.store);
      same_place : g.W.WordStore.place l.store ≡ g.W.WordStore.place l.fn.store;
    }

abbrev pub decreases-loop-change : goal.decreases-loop-change
decreases-loop-change g l = l.end - l.place
