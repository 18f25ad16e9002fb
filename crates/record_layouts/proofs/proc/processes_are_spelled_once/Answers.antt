use Rattle.std.proofs.Common.{arith}
use Rattle.record_layouts.proofs.Processes.{numbers_agree, banks_agree}
use Rattle.record_layouts.proofs.Records.{broken, block, gap, one_record}
use Rattle.record_layouts.proofs.proc.processes_are_spelled_once.Goals as goal

pub returns-clause-words : goal.returns-clause-words
returns-clause-words c some others process is is_too =
    let numbers = numbers_agree some others process is.front is_too.front in
    let descs = block 8 numbers is.descs is_too.descs in
    let bank = banks_agree some others 21 _ descs is.bank is_too.bank in
    let handler_save = banks_agree some others 53 _ bank is.handler_save is_too.handler_save in
    let crash_save = banks_agree some others 85 _ handler_save is.crash_save is_too.crash_save in
    let unused = gap 127 crash_save is.unused is_too.unused in
    one_record some others 127 unused (omega arith) is.long is_too.long is.seal is_too.seal

pub returns-clause-changed : goal.returns-clause-changed
returns-clause-changed c words process is i value within small other after is_after =
    broken words i value is.all_words (omega (arith, is.long)) (omega (arith, is.long)) small other is.seal is_after.seal
