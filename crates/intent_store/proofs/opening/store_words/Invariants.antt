use Rattle.std.proofs.Common.{◌≡◌, true, take}
use Rattle.record_layouts.specs.Held.{beside}
use Rattle.record_layouts.specs.Overlay.{HasArea, area_at}
use Rattle.intent_store.specs.Blocks.{IsShutLike, with_words_at}
use Rattle.word_store.specs.Stores.{KeepsUnstored}
use Rattle.intent_store.proofs.opening.store_words.Given as goal

-- the first of the words are stored
abbrev pub invariant-loop-index : goal.invariant-loop-index
invariant-loop-index g l =
    let words = g.W.WordSource.words in
    record {
      stored : area_at (words l.store) l.base ≡ with_words_at (area_at (words l.fn.store) l.base) l.spelled.end (take l.index l.words);
      shut : IsShutLike (area_at (words l.fn.store) l.base) (area_at (words l.store) l.base);
      there : HasArea (words l.store) l.base;
      same_beside : beside l.base (words l.store) ≡ beside l.base (words l.fn.store);
      same_rest : g.W.WordStore.rest l.store ≡ g.W.WordStore.rest l.fn.store;
      able : g.W.WordStore.able l.store ≡ true;
      unstored : KeepsUnstored (g.W.WordStore.made l.fn.store) (g.W.WordStore.made l.store) (words l.fn.store) (words l.store);
      same_place : g.W.WordStore.place l.store ≡ g.W.WordStore.place l.fn.store;
    }
