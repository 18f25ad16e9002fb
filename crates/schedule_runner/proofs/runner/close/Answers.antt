use Rattle.std.proofs.Common.{◌≡◌, Some, subst}
use Rattle.ow_base.specs.declared.machine.Shape.{Shape}
use Rattle.record_layouts.specs.Unix.Traps.{closing_of}
use Rattle.record_layouts.specs.Unix.Turn.{ending_of}
use Rattle.kernel_traps.specs.Plants.{unix_at}
use Rattle.schedule_runner.proofs.Running.{comes_to_end, some_room}
use Rattle.schedule_runner.proofs.Panicking.{closing_panicked, comes_through, panic_nearer}
use Rattle.schedule_runner.proofs.runner.close.Goals as goal

pub serve_panic-requires-clause-room : goal.serve_panic-requires-clause-room
serve_panic-requires-clause-room c = some_room c.requires.come.0 c.requires.come.1 c.args.plant.now c.args.log.now c.requires.come.2 c.in-Err.ensures.allowed

pub returns-in-Ok-clause-ended : goal.returns-in-Ok-clause-ended
returns-in-Ok-clause-ended c = λ load points ending come ends all.
    let s = c.args.plant.now in
    comes_to_end load points s c.args.log.now come c.shutdown.new.plant ending (subst (λ (m : Shape). ending_of m (unix_at s) ≡ Some ending) come.shape ends)
    c.in-Ok.ensures.passed c.in-Ok.ensures.ok

pub returns-in-Err-clause-come : goal.returns-in-Err-clause-come
returns-in-Err-clause-come c = λ load points come again.
    let s = c.args.plant.now in
    comes_through load points s c.args.log.now come (closing_of (unix_at s)) c.shutdown.new.plant c.serve_panic.new.plant c.serve_panic.new.log
    (closing_panicked load points s c.args.log.now come c.shutdown.new.plant c.serve_panic.new.plant c.serve_panic.new.log c.in-Err.ensures.allowed
    c.refusals_are_exact.ensures.store c.refusals_are_exact.ensures.leave c.serve_panic.ensures c.requires.ends.0 c.requires.ends.1 c.in-Err.ensures.err)

pub returns-in-Err-clause-nearer : goal.returns-in-Err-clause-nearer
returns-in-Err-clause-nearer c = λ again.
    let s = c.args.plant.now in
    let load = c.requires.come.0 in
    let points = c.requires.come.1 in
    let come = c.requires.come.2 in
    panic_nearer load points s c.args.log.now come (closing_of (unix_at s)) c.shutdown.new.plant c.serve_panic.new.plant c.serve_panic.new.log
    (closing_panicked load points s c.args.log.now come c.shutdown.new.plant c.serve_panic.new.plant c.serve_panic.new.log c.in-Err.ensures.allowed
    c.refusals_are_exact.ensures.store c.refusals_are_exact.ensures.leave c.serve_panic.ensures c.requires.ends.0 c.requires.ends.1 c.in-Err.ensures.err)
