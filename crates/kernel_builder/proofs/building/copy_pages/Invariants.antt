use Rattle.std.proofs.Common.{◌≡◌, ◌+◌, ◌≤◌, ◌*◌, true}
use Rattle.kernel_builder.specs.Sets.{HasPool, with_pages, without_pool}
use Rattle.kernel_builder.proofs.building.copy_pages.Given as goal

-- the pages of the frames before this one are copied
abbrev pub invariant-loop-frame : goal.invariant-loop-frame
invariant-loop-frame g l = record {
  able : g.S.WordStore.able l.store ≡ true;
  words : g.S.WordSource.words l.store ≡ with_pages l.map (g.B.Blueprint.plan l.blueprint) (g.S.WordSource.words l.fn.store) l.frame;
  there : HasPool (g.S.WordSource.words l.store) l.map;
  others : without_pool l.map (g.S.WordSource.words l.store) ≡ without_pool l.map (g.S.WordSource.words l.fn.store);
  rest : g.S.WordStore.rest l.store ≡ g.S.WordStore.rest l.fn.store;
  counted : g.S.WordStore.made l.store ≤ g.S.WordStore.made l.fn.store + 1024 * l.frame;
  place : g.S.WordStore.place l.store ≡ g.S.WordStore.place l.fn.store;
}
