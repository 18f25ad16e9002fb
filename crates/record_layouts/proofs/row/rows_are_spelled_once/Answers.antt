use Rattle.std.proofs.Common.{◌≡◌, ◌∙◌, sym, refl, arith}
use Rattle.record_layouts.proofs.Records.{broken, nothing, word, block, one_record}
use Rattle.record_layouts.proofs.PackedBytes.{one_reading, one_packing, part_fits}
use Rattle.record_layouts.proofs.row.rows_are_spelled_once.Goals as goal

pub returns-clause-value : goal.returns-clause-value
returns-clause-value c words a b is is_too =
    let text : a.text ≡ b.text = one_reading is.text is_too.text in
    let place : a.place ≡ b.place = sym is.place ∙ is_too.place in
    grind (arith, text, place)

pub returns-clause-words : goal.returns-clause-words
returns-clause-words c some others row is is_too =
    let kind = word 0 (nothing some others) is.kind is_too.kind in
    let place = word 1 kind is.place is_too.place in
    let text = one_packing is.text is_too.text (part_fits some 2 20 is.all_words) (part_fits others 2 20 is_too.all_words) in
    let bytes = block 20 place text refl in
    let unused = word 22 bytes is.unused is_too.unused in
    one_record some others 23 unused (omega arith) is.long is_too.long is.seal is_too.seal

pub returns-clause-changed : goal.returns-clause-changed
returns-clause-changed c words row is i value within small other after is_after =
    broken words i value is.all_words (omega (arith, is.long)) (omega (arith, is.long)) small other is.seal is_after.seal
