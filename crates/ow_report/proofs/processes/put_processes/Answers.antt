use Rattle.std.proofs.Common.{◌-◌, arith}
use Rattle.record_layouts.specs.Unix.Report.{process_lines}
use Rattle.ow_report.specs.Agrees.{exits_of, next_pid_of}
use Rattle.ow_report.proofs.Reports.{processes_further, processes_broken, processes_complete}
use Rattle.ow_report.proofs.processes.put_processes.Goals as goal

pub loop-pid-preserved : goal.loop-pid-preserved
loop-pid-preserved g c =
    let s = c.args.plant.now in
    let next = rw c.new-view.ensures at c.next_pid-next.ensures.pid in
    let ended = rw c.new-view.ensures at c.exit_status.ensures in record {
      way = processes_further (process_lines (exits_of s) 1 (next_pid_of s - 1)) (exits_of s) c.loop-pid.pid (next_pid_of s) c.exit_status.result _ _ _
          (omega (arith, next, c.loop-pid-test.true)) ended c.loop-pid.invariant.way c.in-Ok.ensures.writes;
      from_one = omega (arith, c.loop-pid.invariant.from_one);
      steady = omega (arith, c.in-Ok.ensures.never_falls);
    }

pub returns-in-Err-clause-writes : goal.returns-in-Err-clause-writes
returns-in-Err-clause-writes g c =
    let s = c.args.plant.now in
    let next = rw c.new-view.ensures at c.next_pid-next.ensures.pid in
    let ended = rw c.new-view.ensures at c.exit_status.ensures in
    processes_broken (process_lines (exits_of s) 1 (next_pid_of s - 1)) (exits_of s) c.loop-pid.pid (next_pid_of s) c.exit_status.result _ _ _
    (omega (arith, next, c.loop-pid-test.true)) ended c.loop-pid.invariant.way c.in-Err.ensures.writes

pub returns-clause-writes : goal.returns-clause-writes
returns-clause-writes g c =
    let s = c.args.plant.now in
    let next = rw c.new-view.ensures at c.next_pid-next.ensures.pid in
    processes_complete (process_lines (exits_of s) 1 (next_pid_of s - 1)) (exits_of s) c.loop-pid.pid (next_pid_of s) _ _
    (omega (arith, next, c.loop-pid-test.false)) c.loop-pid.invariant.way
