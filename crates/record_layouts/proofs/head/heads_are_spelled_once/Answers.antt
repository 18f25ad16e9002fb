use Rattle.std.proofs.Common.{arith}
use Rattle.record_layouts.proofs.Records.{broken, nothing, word, gap, one_record}
use Rattle.record_layouts.proofs.head.heads_are_spelled_once.Goals as goal

pub returns-clause-words : goal.returns-clause-words
returns-clause-words c some others head is is_too =
    let kind = word 0 (nothing some others) is.kind is_too.kind in
    let layout = word 1 kind is.layout is_too.layout in
    let served = word 2 layout is.served is_too.served in
    let last = word 3 served is.last is_too.last in
    let next = word 4 last is.next is_too.next in
    let hand = word 5 next is.hand is_too.hand in
    let unused = gap 15 hand is.unused is_too.unused in
    one_record some others 15 unused (omega arith) is.long is_too.long is.seal is_too.seal

pub returns-clause-changed : goal.returns-clause-changed
returns-clause-changed c words head is i value within small other after is_after =
    broken words i value is.all_words (omega (arith, is.long)) (omega (arith, is.long)) small other is.seal is_after.seal
