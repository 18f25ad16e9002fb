use Rattle.address_space.proofs.UserFrames.{user_beside}
use Rattle.address_space.proofs.preparing.fill_frame.Goals as goal

pub copy_frame-requires-clause-from : goal.copy_frame-requires-clause-from
copy_frame-requires-clause-from g c =
    let r = g.W.RecordView.records c.args.live.now in
    user_beside r (g.W.WordSource.words c.args.live.now) (g.met.W.Writer.of_memory c.args.live.now c.requires.stands) c.in-Some.from
    (rw c.in-Some.is at c.requires.source)
