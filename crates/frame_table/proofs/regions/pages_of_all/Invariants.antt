use Rattle.std.proofs.Common.{◌≡◌, ◌*◌, ◌≤◌}
use Rattle.frame_table.specs.Counts.{pages_of_all}
use Rattle.frame_table.proofs.regions.pages_of_all.Given as goal

abbrev pub invariant-loop-slot : goal.invariant-loop-slot
invariant-loop-slot g l = record { total : l.total ≡ pages_of_all (g.V.RecordView.records l.view) l.slot; few : l.total ≤ 1012 * l.slot }
