use Rattle.std.proofs.Common.{arith}
use Rattle.record_layouts.proofs.Records.{broken, nothing, word, gap, one_record}
use Rattle.record_layouts.proofs.term.terminals_are_spelled_once.Goals as goal

pub returns-clause-words : goal.returns-clause-words
returns-clause-words c some others term is is_too =
    let kind = word 0 (nothing some others) is.kind is_too.kind in
    let tty = word 1 kind is.tty is_too.tty in
    let written = word 2 tty is.written is_too.written in
    let last = word 3 written is.last is_too.last in
    let consumed = word 4 last is.consumed is_too.consumed in
    let top = word 5 consumed is.top is_too.top in
    let row = word 6 top is.row is_too.row in
    let col = word 7 row is.col is_too.col in
    let base = word 8 col is.base is_too.base in
    let unused = gap 15 base is.unused is_too.unused in
    one_record some others 15 unused (omega arith) is.long is_too.long is.seal is_too.seal

pub returns-clause-changed : goal.returns-clause-changed
returns-clause-changed c words term is i value within small other after is_after =
    broken words i value is.all_words (omega (arith, is.long)) (omega (arith, is.long)) small other is.seal is_after.seal
