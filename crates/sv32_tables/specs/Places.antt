-- The place that an access leads to, without the word there.
use Rattle.std.specs.Prelude.{Result, Ok, Err}
use Rattle.ow_base.specs.declared.machine.PageCause.{PageCause}
use Rattle.ow_base.specs.declared.machine.Phys.{Phys}
use Rattle.sv32_tables.specs.declared.walking.Reached.{Reached}

abbrev pub place_reached : Result Reached PageCause → Result Phys PageCause
place_reached (Ok reached) = Ok reached.place
place_reached (Err cause) = Err cause
