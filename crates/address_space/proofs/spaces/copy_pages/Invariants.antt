use Rattle.std.proofs.Common.{◌≡◌, ◌+◌, ◌-◌, ◌≤◌, false}
use Rattle.record_layouts.specs.Held.{StaysUnstored, held_by}
use Rattle.frame_table.specs.Free.{free_before}
use Rattle.address_space.specs.Copying.{AreCopiedOn}
use Rattle.address_space.specs.Spaces.{OnlyPrepares}
use Rattle.address_space.proofs.spaces.copy_pages.Given as goal

-- the pages before this one are copied
abbrev pub invariant-loop-page : goal.invariant-loop-page
invariant-loop-page g l =
    let old = held_by g.W.RecordView.records g.W.WordSource.words g.W.Writer.disk g.W.Writer.rest l.fn.live in
    let new = held_by g.W.RecordView.records g.W.WordSource.words g.W.Writer.disk g.W.Writer.rest l.live in
    record {
      able : g.W.Writer.refused l.live ≡ false;
      stands : g.W.Writer.Stands l.live;
      behind : l.first ≤ l.page;
      copied : AreCopiedOn old new l.from l.to l.process l.taken l.first l.next l.page;
      counted : free_before (g.W.RecordView.records l.fn.live) l.next ≡ free_before (g.W.RecordView.records l.fn.live) l.taken + (l.page - l.first);
      prepares : OnlyPrepares l.to old new;
      unstored : StaysUnstored (g.W.Writer.made l.fn.live) (g.W.Writer.made l.live) old new;
      place : g.W.Writer.place l.live ≡ g.W.Writer.place l.fn.live;
    }
