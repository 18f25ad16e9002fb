use Rattle.std.proofs.Common.{◌∙◌, sym, refl, arith}
use Rattle.record_layouts.proofs.Records.{broken, nothing, word, gap, block, one_record}
use Rattle.record_layouts.proofs.PackedBytes.{one_reading, one_packing, part_fits}
use Rattle.record_layouts.proofs.Files.{one_file}
use Rattle.record_layouts.proofs.file.files_are_spelled_once.Goals as goal

pub returns-clause-value : goal.returns-clause-value
returns-clause-value c words a b is is_too =
    one_file a b (sym is.state ∙ is_too.state) (sym is.name_length ∙ is_too.name_length) (one_reading is.name is_too.name)
    (sym is.size ∙ is_too.size) (sym is.kept ∙ is_too.kept) (sym is.sectors ∙ is_too.sectors)

pub returns-clause-words : goal.returns-clause-words
returns-clause-words c some others file is is_too =
    let kind = word 0 (nothing some others) is.kind is_too.kind in
    let state = word 1 kind is.state is_too.state in
    let name_length = word 2 state is.name_length is_too.name_length in
    let bytes = one_packing is.name is_too.name (part_fits some 3 6 is.all_words) (part_fits others 3 6 is_too.all_words) in
    let name = block 6 name_length bytes refl in
    let size = word 9 name is.size is_too.size in
    let kept = word 10 size is.kept is_too.kept in
    let sectors = block 64 kept is.sectors is_too.sectors in
    let unused = gap 95 sectors is.unused is_too.unused in
    one_record some others 95 unused (omega arith) is.long is_too.long is.seal is_too.seal

pub returns-clause-changed : goal.returns-clause-changed
returns-clause-changed c words file is i value within small other after is_after =
    broken words i value is.all_words (omega (arith, is.long)) (omega (arith, is.long)) small other is.seal is_after.seal
