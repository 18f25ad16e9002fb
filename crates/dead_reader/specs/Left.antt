-- The records and the hand-over that a kernel has left.
use Rattle.std.specs.Prelude.{Option, Some, None}
use Rattle.ow_base.specs.Sv32.{WordMap}
use Rattle.ow_plant.specs.Dead.{DeadState}
use Rattle.panic_handover.specs.declared.hand_over.HandOver.{HandOver}
use Rattle.record_layouts.specs.Halves.{half_map}
use Rattle.record_layouts.specs.Held.{Records}
use Rattle.record_layouts.specs.Left.{HandedOver}
use Rattle.record_layouts.specs.Reading.{records_of}

-- the records of its area, with a valid open intent laid over it
abbrev pub records_left : DeadState → WordMap → Records
records_left dead words = records_of (half_map dead.area dead.user_frames dead.sectors) words

-- what it handed over, if it did
abbrev pub told_by : HandOver → HandedOver
told_by h = record { trap = h.trap; pid = h.pid; came = h.came; bank = h.bank }

abbrev pub handed_of : Option HandOver → Option HandedOver
handed_of (Some h) = Some (told_by h)
handed_of None = None
