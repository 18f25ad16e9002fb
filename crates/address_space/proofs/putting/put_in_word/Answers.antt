use Rattle.std.proofs.Common.{◌/◌, ◌%◌}
use Rattle.std.proofs.lemmas.Result.{on_ok_weaker}
use Rattle.record_layouts.specs.Held.{held_by}
use Rattle.address_space.proofs.Stored.{word_put, word_read}
use Rattle.address_space.proofs.putting.put_in_word.Goals as goal

pub returns-clause-ok : goal.returns-clause-ok
returns-clause-ok g c =
    let records = g.W.RecordView.records c.args.live.now in
    let read = word_read records.map.area_base (g.W.WordSource.words c.args.live.now) c.args.frame (c.args.addr % 4096 / 4)
    c.load.result c.unwrap_or-old.result c.requires.beside.beside c.load.ensures c.unwrap_or-old.ensures in
    on_ok_weaker c.direct_word.result (λ is slot found.
    word_put (held_by g.W.RecordView.records g.W.WordSource.words g.W.Writer.disk g.W.Writer.rest c.args.live.now) slot c.args.frame c.args.addr
    c.word_with_bytes.result c.args.bytes.now found c.requires.within (rw read at c.word_with_bytes.ensures) _ c.requires.beside.beside is) c.direct_word.ensures.ok
