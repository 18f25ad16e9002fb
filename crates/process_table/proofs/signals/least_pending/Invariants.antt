use Rattle.std.proofs.Common.{◌≤◌, Some}
use Rattle.record_layouts.specs.Decode.{is_pending}
use Rattle.process_table.specs.Least.{NonePasses}
use Rattle.process_table.proofs.signals.least_pending.Given as goal

abbrev pub invariant-loop-signal : goal.invariant-loop-signal
invariant-loop-signal l = record { from : 1 ≤ l.signal; below : NonePasses (is_pending (Some l.signals)) 1 l.signal }
