use Rattle.std.proofs.Common.{◌≡◌, ◌+◌, ◌≤◌, true}
use Rattle.record_layouts.specs.Held.{beside}
use Rattle.record_layouts.specs.Overlay.{HasArea, area_at}
use Rattle.kernel_builder.specs.Sets.{with_first_words}
use Rattle.kernel_builder.proofs.setting.store_words.Given as goal

-- the words before this one are in their places
abbrev pub invariant-loop-place : goal.invariant-loop-place
invariant-loop-place g l = record {
  able : g.S.WordStore.able l.store ≡ true;
  words : area_at (g.S.WordSource.words l.store) l.base ≡ with_first_words (area_at (g.S.WordSource.words l.fn.store) l.base) l.begin l.place l.words;
  there : HasArea (g.S.WordSource.words l.store) l.base;
  beside : beside l.base (g.S.WordSource.words l.store) ≡ beside l.base (g.S.WordSource.words l.fn.store);
  rest : g.S.WordStore.rest l.store ≡ g.S.WordStore.rest l.fn.store;
  counted : g.S.WordStore.made l.store ≤ g.S.WordStore.made l.fn.store + l.place;
  place : g.S.WordStore.place l.store ≡ g.S.WordStore.place l.fn.store;
}
