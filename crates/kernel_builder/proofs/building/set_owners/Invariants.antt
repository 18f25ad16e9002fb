use Rattle.std.proofs.Common.{◌≡◌, ◌+◌, ◌≤◌, true}
use Rattle.record_layouts.specs.Held.{beside}
use Rattle.record_layouts.specs.Overlay.{HasArea, area_at}
use Rattle.kernel_builder.specs.Sets.{with_owners}
use Rattle.kernel_builder.proofs.building.set_owners.Given as goal

-- the words before this one are set
abbrev pub invariant-loop-number : goal.invariant-loop-number
invariant-loop-number g l = record {
  able : g.S.WordStore.able l.store ≡ true;
  area : area_at (g.S.WordSource.words l.store) l.map.area_base
      ≡ with_owners l.map (g.B.Blueprint.plan l.blueprint) (area_at (g.S.WordSource.words l.fn.store) l.map.area_base) l.number;
  there : HasArea (g.S.WordSource.words l.store) l.map.area_base;
  beside : beside l.map.area_base (g.S.WordSource.words l.store) ≡ beside l.map.area_base (g.S.WordSource.words l.fn.store);
  rest : g.S.WordStore.rest l.store ≡ g.S.WordStore.rest l.fn.store;
  counted : g.S.WordStore.made l.store ≤ g.S.WordStore.made l.fn.store + l.number;
  place : g.S.WordStore.place l.store ≡ g.S.WordStore.place l.fn.store;
}
