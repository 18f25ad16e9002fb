use Rattle.std.proofs.Common.{◌≡◌, false}
use Rattle.record_layouts.specs.Held.{StaysUnstored, held_by}
use Rattle.address_space.proofs.Growing.{AreReady}
use Rattle.address_space.proofs.spaces.grow.Given as goal

-- the first pages behind the heap are prepared
abbrev pub invariant-loop-done : goal.invariant-loop-done
invariant-loop-done g l = record {
  ready : AreReady (held_by g.W.RecordView.records g.W.WordSource.words g.W.Writer.disk g.W.Writer.rest l.fn.live)
      (held_by g.W.RecordView.records g.W.WordSource.words g.W.Writer.disk g.W.Writer.rest l.live) l.slot l.first l.done l.from;
  able : g.W.Writer.refused l.live ≡ false;
  stands : g.W.Writer.Stands l.live;
  unstored : StaysUnstored (g.W.Writer.made l.fn.live) (g.W.Writer.made l.live)
      (held_by g.W.RecordView.records g.W.WordSource.words g.W.Writer.disk g.W.Writer.rest l.fn.live)
      (held_by g.W.RecordView.records g.W.WordSource.words g.W.Writer.disk g.W.Writer.rest l.live);
  place : g.W.Writer.place l.live ≡ g.W.Writer.place l.fn.live;
}
