use Rattle.std.proofs.Common.{rules, sym}
use Rattle.panic_handover.proofs.Reading.{hand_over_read, none_read}
use Rattle.panic_handover.proofs.hand_over.HandOver.from_words.Goals as goal

pub returns-then-fits-clause-found : goal.returns-then-fits-clause-found
returns-then-fits-clause-found c = search rules

pub returns-then-fits-clause-read : goal.returns-then-fits-clause-read
returns-then-fits-clause-read c = sym (hand_over_read c.args.words.now _ (returns-then-fits-clause-found c))

pub returns-then-words-ne-KIND-clause-none : goal.returns-then-words-ne-KIND-clause-none
returns-then-words-ne-KIND-clause-none c = search rules

pub returns-then-words-ne-KIND-clause-read : goal.returns-then-words-ne-KIND-clause-read
returns-then-words-ne-KIND-clause-read c = none_read c.args.words.now (returns-then-words-ne-KIND-clause-none c)

pub returns-in_default-clause-none : goal.returns-in_default-clause-none
returns-in_default-clause-none c = search rules

pub returns-in_default-clause-read : goal.returns-in_default-clause-read
returns-in_default-clause-read c = none_read c.args.words.now (returns-in_default-clause-none c)

pub returns-else-fits-clause-none : goal.returns-else-fits-clause-none
returns-else-fits-clause-none c = search rules

pub returns-else-fits-clause-read : goal.returns-else-fits-clause-read
returns-else-fits-clause-read c = none_read c.args.words.now (returns-else-fits-clause-none c)
