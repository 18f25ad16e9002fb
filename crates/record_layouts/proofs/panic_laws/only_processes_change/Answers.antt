use Rattle.std.proofs.Common.{refl}
use Rattle.record_layouts.specs.Unix.Wounds.{no_wounds}
use Rattle.record_layouts.specs.Unix.Abort.{abort}
use Rattle.record_layouts.proofs.Surviving.{exits_stay}
use Rattle.record_layouts.proofs.panic_laws.only_processes_change.Goals as goal

pub returns-clause-files : goal.returns-clause-files
unfolding abort no_wounds
returns-clause-files c v file = refl

pub returns-clause-terminals : goal.returns-clause-terminals
unfolding abort no_wounds
returns-clause-terminals c v tty = refl

pub returns-clause-exits : goal.returns-clause-exits
unfolding abort
returns-clause-exits c v pid = exits_stay v pid (v.processes pid)

pub returns-clause-pids : goal.returns-clause-pids
unfolding abort no_wounds
returns-clause-pids c v = (refl, refl)

pub returns-clause-counts : goal.returns-clause-counts
unfolding abort
returns-clause-counts c v = (refl, refl)
