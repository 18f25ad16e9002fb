use Rattle.std.proofs.Common.{rules}
use Rattle.address_space.proofs.Bytes.{word_written}
use Rattle.address_space.proofs.putting.word_with_bytes.Goals as goal

pub returns : goal.returns
returns c =
    let same = c.copy_from_slice.ensures.after in
    word_written c.args.word c.args.first c.args.bytes.now c.requires (λ i. search (rules, c.type_inv.bytes i)) c.from_le_bytes.result
    (rw (c.to_le_bytes-all.ensures, same) at c.from_le_bytes.ensures)
