use Rattle.std.proofs.Common.{sym, subst}
use Rattle.record_layouts.specs.Held.{Held, held_by}
use Rattle.address_space.specs.Spaces.{OnlyPrepares}
use Rattle.address_space.proofs.BareTables.{bare_prepares, word_bare}
use Rattle.address_space.proofs.Outcomes.{either_way, on_err, on_ok}
use Rattle.address_space.proofs.Prepared.{prepares_none}
use Rattle.address_space.proofs.preparing.clear_word.Goals as goal

pub returns-clause-ok : goal.returns-clause-ok
returns-clause-ok g c =
    let held = held_by g.W.RecordView.records g.W.WordSource.words g.W.Writer.disk g.W.Writer.rest in
    on_ok c.direct_word.result _ _
    (word_bare c.args.slot (held c.args.live.now) (held c.direct_word.new.self) c.args.table c.args.word c.requires.slot c.requires.table c.requires.word)
    (rw (c.frame_of_table-frame.ensures, c.bare_word-bare.ensures) at c.direct_word.ensures.ok)

pub returns-clause-prepares : goal.returns-clause-prepares
returns-clause-prepares g c =
    let held = held_by g.W.RecordView.records g.W.WordSource.words g.W.Writer.disk g.W.Writer.rest in
    either_way c.direct_word.result _
    (on_ok c.direct_word.result _ _
    (λ is. bare_prepares c.args.slot (held c.args.live.now) (held c.direct_word.new.self) c.args.table c.args.word c.requires.slot c.requires.table c.requires.word is
    c.requires.unused)
    (rw (c.frame_of_table-frame.ensures, c.bare_word-bare.ensures) at c.direct_word.ensures.ok))
    (on_err c.direct_word.result _ _
    (λ same. subst (λ (x : Held g.W.Writer.Rest). OnlyPrepares c.args.slot (held c.args.live.now) x) (sym same) (prepares_none c.args.slot (held c.args.live.now)))
    c.direct_word.ensures.err)
