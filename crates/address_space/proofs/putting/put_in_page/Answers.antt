use Rattle.std.proofs.Common.{◌≡◌, ◌+◌, ◌/◌, refl, sym, ◌∙◌, arith}
use Rattle.address_space.proofs.Stored.{frame_beside, so_far_none, so_far_on}
use Rattle.address_space.proofs.putting.put_in_page.Goals as goal

pub loop-done-init : goal.loop-done-init
loop-done-init g c = record {
  so_far = so_far_none c.args.slot c.args.addr c.args.bytes.now _ _;
  able = c.requires.able;
  stands = c.requires.stands;
  place = refl;
}

pub put_in_word-requires-clause-beside : goal.put_in_word-requires-clause-beside
put_in_word-requires-clause-beside g c =
    let loop = c.loop-done.invariant in
    let found = sym c.page_frame.ensures ∙ c.unwrap-frame.ensures in
    frame_beside (g.W.RecordView.records c.loop-done.live) c.args.slot (c.args.addr / 4096) (g.W.WordSource.words c.loop-done.live) c.unwrap-frame.result
    (g.met.W.Writer.of_memory c.loop-done.live loop.stands) (rw loop.so_far.put.records found)

pub loop-done-preserved : goal.loop-done-preserved
loop-done-preserved g c =
    let loop = c.loop-done.invariant in
    let found = sym c.page_frame.ensures ∙ c.unwrap-frame.ensures in
    let page : (c.args.addr + c.loop-done.done) / 4096 ≡ c.args.addr / 4096 = omega arith in
    let put = c.in_ok-put_in_word.ensures.ok c.args.slot (rw (page, loop.so_far.put.records) found) in
    record {
      so_far = so_far_on c.args.slot c.args.addr c.args.bytes.now _ _ _ _ _ _ c.loop-done.done c.min-end.result loop.so_far (omega arith) (omega arith)
          c.put_in_word.ensures.unstored put;
      able = c.in_ok-put_in_word.ensures.stays;
      stands = c.put_in_word.ensures.still_stands;
      place = c.put_in_word.ensures.place ∙ loop.place;
    }
