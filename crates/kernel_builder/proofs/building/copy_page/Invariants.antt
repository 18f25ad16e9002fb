use Rattle.std.proofs.Common.{◌≡◌, ◌+◌, ◌≤◌, true}
use Rattle.kernel_builder.specs.Sets.{HasFrame, with_frame, without}
use Rattle.kernel_builder.proofs.building.copy_page.Given as goal

-- the words before this one are copied
abbrev pub invariant-loop-word : goal.invariant-loop-word
invariant-loop-word g l = record {
  able : g.S.WordStore.able l.store ≡ true;
  words : g.S.WordSource.words l.store ≡ with_frame (g.S.WordSource.words l.fn.store) (l.map.pool_base + l.frame)
      ((g.B.Blueprint.plan l.blueprint).word_at l.holder.slot l.holder.page) l.word;
  there : HasFrame (g.S.WordSource.words l.store) (l.map.pool_base + l.frame);
  others : without (l.map.pool_base + l.frame) (g.S.WordSource.words l.store) ≡ without (l.map.pool_base + l.frame) (g.S.WordSource.words l.fn.store);
  rest : g.S.WordStore.rest l.store ≡ g.S.WordStore.rest l.fn.store;
  counted : g.S.WordStore.made l.store ≤ g.S.WordStore.made l.fn.store + l.word;
  place : g.S.WordStore.place l.store ≡ g.S.WordStore.place l.fn.store;
}
