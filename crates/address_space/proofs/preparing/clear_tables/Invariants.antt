use Rattle.std.proofs.Common.{◌≡◌, ◌*◌, false}
use Rattle.record_layouts.specs.Held.{StaysUnstored, held_by}
use Rattle.address_space.specs.Preparing.{AreWordsBare}
use Rattle.address_space.specs.Spaces.{OnlyPrepares}
use Rattle.address_space.proofs.preparing.clear_tables.Given as goal

-- the tables before this one are made those of no page
abbrev pub invariant-loop-table : goal.invariant-loop-table
invariant-loop-table g l =
    let held = held_by g.W.RecordView.records g.W.WordSource.words g.W.Writer.disk g.W.Writer.rest in
    record {
      bare : AreWordsBare (held l.fn.live) (held l.live) l.slot 0 (1024 * l.table);
      prepares : OnlyPrepares l.slot (held l.fn.live) (held l.live);
      able : g.W.Writer.refused l.live ≡ false;
      standing : g.W.Writer.Stands l.live;
      unstored : StaysUnstored (g.W.Writer.made l.fn.live) (g.W.Writer.made l.live) (held l.fn.live) (held l.live);
      same_place : g.W.Writer.place l.live ≡ g.W.Writer.place l.fn.live;
    }
