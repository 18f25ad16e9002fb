use Rattle.std.proofs.Common.{◌≡◌, true, is_some, arith}
use Rattle.std.proofs.lemmas.Grind.{common_steps}
use Rattle.dead_reader.proofs.LostRows.{decodes_is}
use Rattle.dead_reader.proofs.terminals.terminal_decodes.Goals as goal

pub returns-then-is_some-clause-decodes : goal.returns-then-is_some-clause-decodes
returns-then-is_some-clause-decodes g c =
    let r = g.V.RecordView.records c.args.view.now in
    let there : is_some (r.terms c.args.tty) ≡ true = grind (arith, common_steps) in
    decodes_is r c.args.tty c.lacks_row.result there c.lacks_row.ensures
