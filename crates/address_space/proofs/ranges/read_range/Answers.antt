use Rattle.std.proofs.Common.{◌≡◌, ◌+◌, ◌-◌, ◌^◌, ◌<◌, ◌≤◌, length, sym, arith, ◌∙◌}
use Rattle.std.proofs.lemmas.Grind.{common_steps}
use Rattle.address_space.proofs.Reading.{all_read, read_more, shut_behind, unread_without_frame}
use Rattle.address_space.specs.declared.access.Access.TheVariants.{Read}
use Rattle.address_space.proofs.ranges.read_range.Goals as goal

pub returns-in_default-clause-answer : goal.returns-in_default-clause-answer
returns-in_default-clause-answer g c =
    let below : c.loop-done.done < length c.args.to.now = omega arith in
    let high : 2 ^ 32 ≤ c.args.addr + c.loop-done.done = omega (arith, c.in_default.ensures) in
    shut_behind (g.V.RecordView.records c.args.view.now) (g.V.WordSource.words c.args.view.now) c.args.slot c.args.process.now c.requires.read
    c.args.addr Read c.loop-done.done _ c.requires.fits below high

pub returns-in_default-frame_in-clause-answer : goal.returns-in_default-frame_in-clause-answer
returns-in_default-frame_in-clause-answer g c =
    let below : c.loop-done.done < length c.args.to.now = omega arith in
    let place : c.in-Some.place ≡ c.args.addr + c.loop-done.done = omega (arith, c.in-Some.ensures) in
    let none = rw place at (sym c.frame_in.ensures ∙ c.in_default-frame_in.is) in
    unread_without_frame (g.V.RecordView.records c.args.view.now) (g.V.WordSource.words c.args.view.now) c.args.slot c.args.process.now c.requires.read
    c.args.addr c.loop-done.done _ below none

pub loop-done-preserved : goal.loop-done-preserved
loop-done-preserved g c =
    let place : c.in-Some.place ≡ c.args.addr + c.loop-done.done = omega (arith, c.in-Some.ensures) in
    let found = rw place at (sym c.frame_in.ensures ∙ c.in-Some-frame_in.is) in
    let long : length c.read_frame.new.to ≡ c.min-end.result - c.loop-done.done = grind (arith, common_steps, c.read_frame.ensures.long) in (
      grind (arith, common_steps),
      read_more (g.V.RecordView.records c.args.view.now) (g.V.WordSource.words c.args.view.now) c.args.slot c.args.process.now c.requires.read
          c.args.addr c.loop-done.to c.read_frame.new.to c.loop-done.done c.min-end.result c.in-Some-frame_in.frame c.loop-done.invariant.1 found
          (omega arith) (omega arith) (omega arith) long (rw place at c.read_frame.ensures.bytes),
    )

pub returns-clause-answer : goal.returns-clause-answer
returns-clause-answer g c =
    let all = all_read _ c.args.addr c.loop-done.to c.loop-done.done c.loop-done.invariant.1 (omega arith) in
    sym (rw c.loop-done.invariant.0 at all.0)

pub returns-clause-bytes : goal.returns-clause-bytes
returns-clause-bytes g c =
    let all = all_read _ c.args.addr c.loop-done.to c.loop-done.done c.loop-done.invariant.1 (omega arith) in
    rw c.loop-done.invariant.0 at all.1
