-- A front of a byte's text, behind the texts of those before it, is a front of all.
use Rattle.ow_base.specs.Lines.{escaped_byte}
use Rattle.ow_base.proofs.Writing.{front_at}
use Rattle.ow_base.proofs.transfer.put_escaped.Goals as goal

pub returns-in-Err-clause-writes : goal.returns-in-Err-clause-writes
returns-in-Err-clause-writes g c =
    front_at escaped_byte c.args.bytes.now c.loop-byte.byte-index 0 _ _ _ c.loop-byte-test.true c.loop-byte.invariant.put
    (rw (c.as_slice.ensures.value, c.escape.ensures) at c.in-Err.ensures.writes)
