use Rattle.std.proofs.Common.{◌-◌, ◌≤◌}
use Rattle.record_layouts.specs.Unix.Report.{process_lines}
use Rattle.ow_report.specs.Agrees.{exits_of, next_pid_of}
use Rattle.ow_report.proofs.Reports.{PartWay}
use Rattle.ow_report.proofs.processes.put_processes.Given as goal

-- the lines of the processes from this one on are left, and the sink's count of faults did not fall
abbrev pub invariant-loop-pid : goal.invariant-loop-pid
invariant-loop-pid g l = record {
  way : PartWay (process_lines (exits_of l.plant) 1 (next_pid_of l.plant - 1)) (process_lines (exits_of l.plant) l.pid (next_pid_of l.plant - l.pid)) (g.K.Sink.written l.initial.sink) (g.K.Sink.written l.sink);
  from_one : 1 ≤ l.pid;
  steady : g.K.Sink.faults l.initial.sink ≤ g.K.Sink.faults l.sink;
}
