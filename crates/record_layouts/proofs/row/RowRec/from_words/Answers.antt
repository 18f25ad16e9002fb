use Rattle.std.proofs.Common.{rules, sym}
use Rattle.record_layouts.specs.Row.{IsRow, row_in}
use Rattle.ow_base.proofs.Deciding.{reads_none}
use Rattle.record_layouts.proofs.Reading.{row_is, row_read}
use Rattle.record_layouts.proofs.row.RowRec.from_words.Goals as goal

pub returns-clause-found : goal.returns-clause-found
returns-clause-found c = search rules

pub returns-clause-read : goal.returns-clause-read
returns-clause-read c = sym (row_read c.args.words.now _ (returns-clause-found c))

pub returns-then-words-ne-KIND-clause-none : goal.returns-then-words-ne-KIND-clause-none
returns-then-words-ne-KIND-clause-none c = search rules

pub returns-then-words-ne-KIND-clause-read : goal.returns-then-words-ne-KIND-clause-read
returns-then-words-ne-KIND-clause-read c =
    reads_none (IsRow c.args.words.now) (row_in c.args.words.now) (row_is c.args.words.now) (returns-then-words-ne-KIND-clause-none c)
