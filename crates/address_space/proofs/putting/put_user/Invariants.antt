use Rattle.std.proofs.Common.{◌≡◌, ◌-◌, false, length}
use Rattle.record_layouts.specs.Held.{held_by}
use Rattle.address_space.proofs.Stored.{IsPutSoFar}
use Rattle.address_space.proofs.putting.put_user.Given as goal

-- the bytes so far are stored
abbrev pub invariant-loop-done : goal.invariant-loop-done
invariant-loop-done g l = record {
  so_far : IsPutSoFar (held_by g.W.RecordView.records g.W.WordSource.words g.W.Writer.disk g.W.Writer.rest l.fn.live)
      (held_by g.W.RecordView.records g.W.WordSource.words g.W.Writer.disk g.W.Writer.rest l.live)
      (g.W.Writer.made l.fn.live) (g.W.Writer.made l.live) l.slot l.addr l.bytes l.done;
  able : g.W.Writer.refused l.live ≡ false;
  stands : g.W.Writer.Stands l.live;
  place : g.W.Writer.place l.live ≡ g.W.Writer.place l.fn.live;
}

abbrev pub decreases-loop-done : goal.decreases-loop-done
decreases-loop-done g l = length l.bytes - l.done
