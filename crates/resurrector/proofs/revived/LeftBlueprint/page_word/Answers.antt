use Rattle.std.proofs.Common.{sym, ◌∙◌}
use Rattle.dead_reader.specs.Left.{handed_of}
use Rattle.resurrector.proofs.Frames.{held_word}
use Rattle.resurrector.proofs.revived.LeftBlueprint.page_word.Goals as goal

pub returns : goal.returns
returns g c =
    let r = g.V.RecordView.records c.args.self.now.view.now in
    let handed = handed_of c.args.self.now.handed in
    c.word_in.ensures ∙ sym (held_word r handed (g.V.WordSource.words c.args.self.now.view.now) c.args.frame c.args.word c.args._holder c.requires.held)
