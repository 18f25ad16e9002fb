use Rattle.record_layouts.specs.Unix.Choice.{no_keys}
use Rattle.record_layouts.proofs.Counting.{broken_counts, done_is}
use Rattle.panic_rows.proofs.laws.broken_traps_are_counted.Goals as goal

pub returns-clause-counts : goal.returns-clause-counts
returns-clause-counts c u v t broken = broken_counts no_keys u t v broken

pub returns-clause-all : goal.returns-clause-all
returns-clause-all c shape u t is = done_is no_keys shape u t is
