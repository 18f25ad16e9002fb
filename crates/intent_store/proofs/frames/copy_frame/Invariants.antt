use Rattle.std.proofs.Common.{◌≡◌, true}
use Rattle.ow_base.specs.Sv32.{word_or_zero}
use Rattle.word_store.specs.Stores.{KeepsUnstored, with_first}
use Rattle.intent_store.proofs.frames.copy_frame.Given as goal

-- the words before this one are copied
abbrev pub invariant-loop-place : goal.invariant-loop-place
invariant-loop-place g l =
    let words = g.W.WordSource.words in
    record {
      stored : words l.store ≡ with_first (words l.fn.store) l.to l.place (λ w. word_or_zero (words l.fn.store l.from w));
      same_rest : g.W.WordStore.rest l.store ≡ g.W.WordStore.rest l.fn.store;
      able : g.W.WordStore.able l.store ≡ true;
      unstored : KeepsUnstored (g.W.WordStore.made l.fn.store) (g.W.WordStore.made l.store) (words l.fn.store) (words l.store);
      same_place : g.W.WordStore.place l.store ≡ g.W.WordStore.place l.fn.store;
    }
