use Rattle.std.proofs.Common.{◌≡◌, true}
use Rattle.word_store.specs.Stores.{KeepsUnstored, with_first}
use Rattle.intent_store.proofs.frames.zero_frame.Given as goal

-- the words before this one are 0
abbrev pub invariant-loop-word : goal.invariant-loop-word
invariant-loop-word g l =
    let words = g.W.WordSource.words in
    record {
      stored : words l.store ≡ with_first (words l.fn.store) l.frame l.word (λ w. 0);
      same_rest : g.W.WordStore.rest l.store ≡ g.W.WordStore.rest l.fn.store;
      able : g.W.WordStore.able l.store ≡ true;
      unstored : KeepsUnstored (g.W.WordStore.made l.fn.store) (g.W.WordStore.made l.store) (words l.fn.store) (words l.store);
      same_place : g.W.WordStore.place l.store ≡ g.W.WordStore.place l.fn.store;
    }
