use Rattle.std.proofs.Common.{◌≡◌, Some}
use Rattle.tty_screen.proofs.Showing.{draws}
use Rattle.tty_screen.proofs.drawing.byte_patch.Goals as goal

-- the patch has the terminal's record and then the rows, where there are any
pub returns-clause-shows : goal.returns-clause-shows
returns-clause-shows g c screen shows =
    let tty = c.args.tty in
    let records = g.V.RecordView.records c.args.view.now in
    let before = c.unwrap-terminal.result in
    let after = c.after_byte-after.result in
    let seen = c.seen_row-seen.result in
    let blanked = c.blanked_row-blanked.result in
    let there : records.terms tty ≡ Some before = cc in
    draws shows before after c.args.byte there c.after_byte-after.ensures.top c.after_byte-after.ensures.row c.after_byte-after.ensures.col
    seen blanked c.seen_row-seen.ensures.row c.blanked_row-blanked.ensures.row
