use Rattle.std.proofs.Common.{arith}
use Rattle.record_layouts.proofs.Records.{broken, nothing, word, gap, one_record}
use Rattle.record_layouts.proofs.cache.cache_entries_are_spelled_once.Goals as goal

pub returns-clause-words : goal.returns-clause-words
returns-clause-words c some others entry is is_too =
    let kind = word 0 (nothing some others) is.kind is_too.kind in
    let state = word 1 kind is.state is_too.state in
    let file = word 2 state is.file is_too.file in
    let page = word 3 file is.page is_too.page in
    let unused = gap 7 page is.unused is_too.unused in
    one_record some others 7 unused (omega arith) is.long is_too.long is.seal is_too.seal

pub returns-clause-changed : goal.returns-clause-changed
returns-clause-changed c words entry is i value within small other after is_after =
    broken words i value is.all_words (omega (arith, is.long)) (omega (arith, is.long)) small other is.seal is_after.seal
