use Rattle.process_table.proofs.PidSums.{over_slots}
use Rattle.process_table.proofs.laws.sums_over_pids_are_over_slots.Goals as goal

pub returns : goal.returns
returns c r words context weight value sound nothing lives none = over_slots r words context weight sound nothing value lives none
