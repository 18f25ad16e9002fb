use Rattle.std.proofs.Common.{◌≡◌, drop}
use Rattle.record_layouts.specs.Unix.PanicReport.{entry_for}
use Rattle.ow_report.proofs.unused.entry_for.Given as goal

-- the entry is none of those before this one
abbrev pub invariant-loop-entry : goal.invariant-loop-entry
invariant-loop-entry l = entry_for (drop l.entry-index l.history) l.trap ≡ entry_for l.history l.trap
