use Rattle.std.proofs.Common.{◌-◌}
use Rattle.record_layouts.specs.Unix.Report.{process_lines}
use Rattle.ow_base.proofs.Writing.{cut, then_writes}
use Rattle.ow_report.specs.Agrees.{exits_of, next_pid_of, plant_text, terminals_text}
use Rattle.ow_report.proofs.report.put_state.Goals as goal

pub returns-in-Ok-clause-writes : goal.returns-in-Ok-clause-writes
unfolding plant_text
returns-in-Ok-clause-writes g c =
    let s = c.args.plant.now in
    then_writes c.put_terminals.result (process_lines (exits_of s) 1 (next_pid_of s - 1)) (terminals_text s) _ _ _ c.in-Ok.ensures.writes c.put_terminals.ensures.writes

pub returns-in-Err-clause-writes : goal.returns-in-Err-clause-writes
unfolding plant_text
returns-in-Err-clause-writes g c =
    let s = c.args.plant.now in
    cut (process_lines (exits_of s) 1 (next_pid_of s - 1)) (terminals_text s) _ _ c.in-Err.ensures.writes
