-- Computed by `refl`, or by the lemmas on the worked worlds.
use Rattle.otherworld.proofs.Worked.{empty_refused, few_frames_refused, no_end_refused, panic_twice_refused}
use Rattle.otherworld.proofs.rows.rows_are_refused.Goals as goal

pub returns-clause-empty : goal.returns-clause-empty
returns-clause-empty c = empty_refused

pub returns-clause-few_frames : goal.returns-clause-few_frames
returns-clause-few_frames c = few_frames_refused

pub returns-clause-no_end : goal.returns-clause-no_end
returns-clause-no_end c = no_end_refused

pub returns-clause-order : goal.returns-clause-order
returns-clause-order c = panic_twice_refused
