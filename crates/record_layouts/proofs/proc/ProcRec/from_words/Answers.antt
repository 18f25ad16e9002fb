use Rattle.std.proofs.Common.{rules, sym}
use Rattle.record_layouts.specs.Proc.{IsProc, proc_in}
use Rattle.ow_base.proofs.Deciding.{reads_none}
use Rattle.record_layouts.proofs.Reading.{proc_is, proc_read}
use Rattle.record_layouts.proofs.proc.ProcRec.from_words.Goals as goal

pub returns-then-fits-clause-found : goal.returns-then-fits-clause-found
returns-then-fits-clause-found c = search rules

pub returns-then-fits-clause-read : goal.returns-then-fits-clause-read
returns-then-fits-clause-read c = sym (proc_read c.args.words.now _ (returns-then-fits-clause-found c))

pub returns-then-words-ne-KIND-clause-none : goal.returns-then-words-ne-KIND-clause-none
returns-then-words-ne-KIND-clause-none c = search rules

pub returns-then-words-ne-KIND-clause-read : goal.returns-then-words-ne-KIND-clause-read
returns-then-words-ne-KIND-clause-read c =
    reads_none (IsProc c.args.words.now) (proc_in c.args.words.now) (proc_is c.args.words.now) (returns-then-words-ne-KIND-clause-none c)

pub returns-else-fits-clause-none : goal.returns-else-fits-clause-none
returns-else-fits-clause-none c = search rules

pub returns-else-fits-clause-read : goal.returns-else-fits-clause-read
returns-else-fits-clause-read c =
    reads_none (IsProc c.args.words.now) (proc_in c.args.words.now) (proc_is c.args.words.now) (returns-else-fits-clause-none c)
