use Rattle.std.proofs.Common.{◌/◌, sym, ◌∙◌, arith}
use Rattle.std.proofs.lemmas.Bool.Decides.{nat_tests}
use Rattle.std.proofs.lemmas.Result.{on_ok_weaker}
use Rattle.record_layouts.specs.Held.{held_by}
use Rattle.frame_table.specs.Maps.{framed_pages}
use Rattle.address_space.proofs.Stored.{frame_beside}
use Rattle.address_space.proofs.WordStored.{at_word, frame_where_taken, whole_put}
use Rattle.address_space.proofs.putting.put_word.Goals as goal

pub unwrap-frame-requires : goal.unwrap-frame-requires
unwrap-frame-requires g c =
    rw c.page_frame.ensures (frame_where_taken (g.W.RecordView.records c.args.live.now) (g.W.WordSource.words c.args.live.now) c.args.slot c.args.addr c.requires.takes)

pub direct_word-requires-clause-direct : goal.direct_word-requires-clause-direct
direct_word-requires-clause-direct g c =
    let found = sym c.page_frame.ensures ∙ c.unwrap-frame.ensures in
    let beside = frame_beside (g.W.RecordView.records c.args.live.now) c.args.slot (c.args.addr / 4096) (g.W.WordSource.words c.args.live.now) c.unwrap-frame.result
    (g.met.W.Writer.of_memory c.args.live.now c.requires.stands) found in
    record {
      within = omega arith;
      there = beside.there _ (omega arith);
      direct = grind (arith, nat_tests, beside.beside);
    }

pub returns-clause-ok : goal.returns-clause-ok
returns-clause-ok g c =
    let records = g.W.RecordView.records c.args.live.now in
    let words = g.W.WordSource.words c.args.live.now in
    let found = sym c.page_frame.ensures ∙ c.unwrap-frame.ensures in
    let beside = frame_beside records c.args.slot (c.args.addr / 4096) words c.unwrap-frame.result (g.met.W.Writer.of_memory c.args.live.now c.requires.stands) found in
    on_ok_weaker c.direct_word.result (λ is.
    whole_put (held_by g.W.RecordView.records g.W.WordSource.words g.W.Writer.disk g.W.Writer.rest c.args.live.now) _ c.args.slot c.args.addr c.args.value
    c.unwrap-frame.result (at_word (framed_pages records words c.args.slot) c.args.addr c.requires.takes) found beside.beside is) c.direct_word.ensures.ok
