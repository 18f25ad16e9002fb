use Rattle.std.proofs.Common.{arith}
use Rattle.record_layouts.proofs.Records.{broken, nothing, word, one_record}
use Rattle.record_layouts.proofs.exit.exits_are_spelled_once.Goals as goal

pub returns-clause-words : goal.returns-clause-words
returns-clause-words c some others exit is is_too =
    let kind = word 0 (nothing some others) is.kind is_too.kind in
    let state = word 1 kind is.state is_too.state in
    let value = word 2 state is.value is_too.value in
    one_record some others 3 value (omega arith) is.long is_too.long is.seal is_too.seal

pub returns-clause-changed : goal.returns-clause-changed
returns-clause-changed c words exit is i value within small other after is_after =
    broken words i value is.all_words (omega (arith, is.long)) (omega (arith, is.long)) small other is.seal is_after.seal
