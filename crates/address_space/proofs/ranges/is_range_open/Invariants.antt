use Rattle.std.proofs.Common.{◌≡◌, ℕ, ◌+◌, ◌-◌, ◌<◌, ◌≤◌, true}
use Rattle.ow_base.specs.Pages.{rights_at}
use Rattle.frame_table.specs.Maps.{framed_pages}
use Rattle.address_space.specs.Writable.{allows}
use Rattle.address_space.proofs.ranges.is_range_open.Given as goal

abbrev pub invariant-loop-done : goal.invariant-loop-done
invariant-loop-done g l = (l.done ≤ l.n) × ((k : ℕ) → k < l.done → allows l.access (rights_at (framed_pages (g.V.RecordView.records l.view) (g.V.WordSource.words l.view) l.slot) (l.addr + k)) ≡ true)

abbrev pub decreases-loop-done : goal.decreases-loop-done
decreases-loop-done g l = l.n - l.done
