use Rattle.std.proofs.Common.{◌≡◌, ◌∙◌, ◌+◌, true, false, Some, None, bytes_eq, codes, ap, sym, arith}
use Rattle.world_file.specs.WorldLines.{pieces}
use Rattle.world_file.specs.WorldReasons.{first_reason}
use Rattle.world_file.specs.WorldReading.{with_line, read_lines}
use Rattle.world_file.proofs.WorldSteps.{read_rest, read_refused, read_end, read_more, room_for_program}
use Rattle.world_file.proofs.reader.read_lines.Goals as goal

pub returns-in-Some-first_reason : goal.returns-in-Some-first_reason
returns-in-Some-first_reason c =
    let loop = c.loop-bytes in
    let reason : first_reason loop.so_far c.in-Some.bytes.now ≡ Some c.in-Some-first_reason.why = ap (first_reason loop.so_far) (sym c.in_ok-line.ensures) ∙ sym c.in-Some-first_reason.ensures in
    sym loop.invariant.reads ∙ read_refused loop.so_far loop.number loop.rest.now c.in-Some.bytes.now c.in-Some.ahead.now c.in-Some-first_reason.why c.in-Some.ensures.found reason

pub returns-then-eq : goal.returns-then-eq
returns-then-eq c =
    let loop = c.loop-bytes in
    let reason : first_reason loop.so_far c.in-Some.bytes.now ≡ None = ap (first_reason loop.so_far) (sym c.in_ok-line.ensures) ∙ sym c.in_default-first_reason.ensures in
    let last : bytes_eq c.in-Some.bytes.now (codes "end") ≡ true = ap (bytes_eq c.in-Some.bytes.now) (sym c.as_slice.ensures) ∙ sym c.if-eq.ensures in
    let is = read_end loop.so_far loop.number loop.rest.now c.in-Some.bytes.now c.in-Some.ahead.now c.in-Some.ensures.found reason last in
    rw (← loop.invariant.reads, is) c.ended.ensures

pub with_line-requires : goal.with_line-requires
with_line-requires c = record {
  room = room_for_program c.loop-bytes.so_far c.in_ok-line.line (sym c.in_default-first_reason.ensures);
}

pub loop-bytes-preserved : goal.loop-bytes-preserved
loop-bytes-preserved c =
    let loop = c.loop-bytes in
    let reason : first_reason loop.so_far c.in-Some.bytes.now ≡ None = ap (first_reason loop.so_far) (sym c.in_ok-line.ensures) ∙ sym c.in_default-first_reason.ensures in
    let other : bytes_eq c.in-Some.bytes.now (codes "end") ≡ false = ap (bytes_eq c.in-Some.bytes.now) (sym c.as_slice.ensures) ∙ sym c.if-eq.ensures in
    record {
      few = omega (arith, loop.invariant.few, c.in-Some.ensures.shorter);
      reads = ap (λ f. read_lines f (loop.number + 1) (pieces 10 c.in-Some.ahead.now)) (c.in_ok-so_far.ensures ∙ ap (with_line loop.so_far) c.in_ok-line.ensures)
          ∙ sym (read_more loop.so_far loop.number loop.rest.now c.in-Some.bytes.now c.in-Some.ahead.now c.in-Some.ensures.found reason other)
          ∙ loop.invariant.reads;
    }

pub returns : goal.returns
returns c =
    let loop = c.loop-bytes in
    sym loop.invariant.reads ∙ read_rest loop.so_far loop.number loop.rest.now loop.rest.now c.in_default.ensures.whole
