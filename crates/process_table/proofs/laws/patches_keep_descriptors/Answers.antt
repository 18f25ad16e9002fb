use Rattle.process_table.proofs.Descriptors.{end_keeps, fork_keeps, on_terminals_stay, save_keeps, signal_keeps, wait_keeps}
use Rattle.process_table.proofs.laws.patches_keep_descriptors.Goals as goal

pub returns-clause-ended : goal.returns-clause-ended
returns-clause-ended c = end_keeps

pub returns-clause-saved : goal.returns-clause-saved
returns-clause-saved c = save_keeps

pub returns-clause-signalled : goal.returns-clause-signalled
returns-clause-signalled c = signal_keeps

pub returns-clause-forked : goal.returns-clause-forked
returns-clause-forked c = fork_keeps

pub returns-clause-waited : goal.returns-clause-waited
returns-clause-waited c = wait_keeps

pub returns-clause-terminals : goal.returns-clause-terminals
returns-clause-terminals c = on_terminals_stay
