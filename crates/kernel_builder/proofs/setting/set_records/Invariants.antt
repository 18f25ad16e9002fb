use Rattle.std.proofs.Common.{◌≡◌, ◌+◌, ◌≤◌, true}
use Rattle.record_layouts.specs.Held.{beside}
use Rattle.record_layouts.specs.Overlay.{HasArea, area_at}
use Rattle.kernel_builder.specs.Counts.{words_below}
use Rattle.kernel_builder.specs.Sets.{HasRecords, unrecorded}
use Rattle.kernel_builder.proofs.setting.set_records.Given as goal

-- the records before this one are set
abbrev pub invariant-loop-number : goal.invariant-loop-number
invariant-loop-number g l = record {
  able : g.S.WordStore.able l.store ≡ true;
  records : HasRecords (area_at (g.S.WordSource.words l.store) l.base) (g.B.Blueprint.plan l.blueprint).record_of l.number;
  kept : unrecorded (area_at (g.S.WordSource.words l.store) l.base) ≡ unrecorded (area_at (g.S.WordSource.words l.fn.store) l.base);
  there : HasArea (g.S.WordSource.words l.store) l.base;
  beside : beside l.base (g.S.WordSource.words l.store) ≡ beside l.base (g.S.WordSource.words l.fn.store);
  rest : g.S.WordStore.rest l.store ≡ g.S.WordStore.rest l.fn.store;
  counted : g.S.WordStore.made l.store ≤ g.S.WordStore.made l.fn.store + words_below l.number;
  place : g.S.WordStore.place l.store ≡ g.S.WordStore.place l.fn.store;
}
