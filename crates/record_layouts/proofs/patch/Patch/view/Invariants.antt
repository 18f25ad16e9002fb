use Rattle.std.proofs.Common.{◌≡◌, take}
use Rattle.record_layouts.proofs.patch.Patch.view.Given as goal

-- the records so far
abbrev pub invariant-loop-item : goal.invariant-loop-item
invariant-loop-item l = record { so_far : l.patch ≡ take l.item-index l.item-items }
