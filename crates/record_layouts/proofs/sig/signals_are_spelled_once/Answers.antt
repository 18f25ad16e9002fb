use Rattle.std.proofs.Common.{arith}
use Rattle.record_layouts.proofs.Records.{broken, nothing, word, gap, block, one_record}
use Rattle.record_layouts.proofs.sig.signals_are_spelled_once.Goals as goal

pub returns-clause-words : goal.returns-clause-words
returns-clause-words c some others signals is is_too =
    let kind = word 0 (nothing some others) is.kind is_too.kind in
    let pid = word 1 kind is.pid is_too.pid in
    let pending = word 2 pid is.pending is_too.pending in
    let handlers = block 15 pending is.handlers is_too.handlers in
    let unused = gap 31 handlers is.unused is_too.unused in
    one_record some others 31 unused (omega arith) is.long is_too.long is.seal is_too.seal

pub returns-clause-changed : goal.returns-clause-changed
returns-clause-changed c words signals is i value within small other after is_after =
    broken words i value is.all_words (omega (arith, is.long)) (omega (arith, is.long)) small other is.seal is_after.seal
