use Rattle.std.proofs.Common.{◌≡◌, length}
use Rattle.record_layouts.specs.Unix.Report.{trimmed}
use Rattle.ow_report.proofs.terminals.without_trailing_spaces.Given as goal

-- what is left has the same bytes before its trailing spaces
abbrev pub invariant-loop-front : goal.invariant-loop-front
invariant-loop-front l = trimmed l.rest ≡ trimmed l.row

abbrev pub decreases-loop-front : goal.decreases-loop-front
decreases-loop-front l = length l.rest
