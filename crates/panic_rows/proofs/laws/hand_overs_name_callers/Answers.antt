use Rattle.std.proofs.Common.{◌≡◌, refl}
use Rattle.std.specs.Prelude.{if◌then◌else◌}
use Rattle.record_layouts.specs.Unix.Traps.{came_of, caller_of, or_zero, pid_of}
use Rattle.record_layouts.specs.Left.{is_by_call}
use Rattle.record_layouts.specs.declared.traps.Trap.{Trap}
use Rattle.record_layouts.specs.declared.traps.Trap.TheVariants as trap
use Rattle.panic_rows.proofs.laws.hand_overs_name_callers.Goals as goal

caller_is : (t : Trap) → (if is_by_call (came_of t) then or_zero (pid_of t) else 0) ≡ caller_of t
caller_is (trap.Entry pid) = refl
caller_is (trap.Piece pid) = refl
caller_is (trap.Fault pid cause) = refl
caller_is (trap.Slice pid) = refl
caller_is (trap.Signal pid signal) = refl
caller_is trap.Idle = refl
caller_is (trap.Closing pid) = refl

pub returns : goal.returns
returns c = caller_is
