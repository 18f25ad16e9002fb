use Rattle.std.proofs.Common.{rules, sym}
use Rattle.record_layouts.specs.Desc.{IsDesc, desc_in}
use Rattle.ow_base.proofs.Deciding.{reads_none}
use Rattle.record_layouts.proofs.Reading.{desc_is, desc_read}
use Rattle.record_layouts.proofs.desc.DescRec.from_words.Goals as goal

pub returns-then-fits-clause-found : goal.returns-then-fits-clause-found
returns-then-fits-clause-found c = search rules

pub returns-then-fits-clause-read : goal.returns-then-fits-clause-read
returns-then-fits-clause-read c = sym (desc_read c.args.words.now _ (returns-then-fits-clause-found c))

pub returns-else-words-eq-KIND-clause-none : goal.returns-else-words-eq-KIND-clause-none
returns-else-words-eq-KIND-clause-none c = search rules

pub returns-else-words-eq-KIND-clause-read : goal.returns-else-words-eq-KIND-clause-read
returns-else-words-eq-KIND-clause-read c =
    reads_none (IsDesc c.args.words.now) (desc_in c.args.words.now) (desc_is c.args.words.now) (returns-else-words-eq-KIND-clause-none c)
