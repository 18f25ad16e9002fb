use Rattle.std.proofs.Common.{arith}
use Rattle.record_layouts.proofs.Records.{broken, nothing, word, gap, one_record}
use Rattle.record_layouts.proofs.desc.descriptions_are_spelled_once.Goals as goal

pub returns-clause-words : goal.returns-clause-words
returns-clause-words c some others desc is is_too =
    let kind = word 0 (nothing some others) is.kind is_too.kind in
    let object = word 1 kind is.object is_too.object in
    let index = word 2 object is.index is_too.index in
    let mode = word 3 index is.mode is_too.mode in
    let offset = word 4 mode is.offset is_too.offset in
    let unused = gap 15 offset is.unused is_too.unused in
    one_record some others 15 unused (omega arith) is.long is_too.long is.seal is_too.seal

pub returns-clause-changed : goal.returns-clause-changed
returns-clause-changed c words desc is i value within small other after is_after =
    broken words i value is.all_words (omega (arith, is.long)) (omega (arith, is.long)) small other is.seal is_after.seal
