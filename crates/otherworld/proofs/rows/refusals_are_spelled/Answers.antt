-- Computed by `refl`, or by the lemmas on the worked worlds.
use Rattle.std.proofs.Common.{refl}
use Rattle.std.specs.Fmt.{digits}
use Rattle.otherworld.specs.Top.{bad_world_text, read_fault_text, memory_text, usage_text}
use Rattle.otherworld.proofs.rows.refusals_are_spelled.Goals as goal

pub returns-clause-empty : goal.returns-clause-empty
unfolding bad_world_text digits
returns-clause-empty c = refl

pub returns-clause-few_frames : goal.returns-clause-few_frames
unfolding bad_world_text digits
returns-clause-few_frames c = refl

pub returns-clause-no_end : goal.returns-clause-no_end
unfolding bad_world_text digits
returns-clause-no_end c = refl

pub returns-clause-order : goal.returns-clause-order
unfolding bad_world_text digits
returns-clause-order c = refl

pub returns-clause-not_built : goal.returns-clause-not_built
unfolding bad_world_text digits
returns-clause-not_built c = refl

pub returns-clause-too_large : goal.returns-clause-too_large
unfolding bad_world_text digits
returns-clause-too_large c = refl

pub returns-clause-read_fault : goal.returns-clause-read_fault
unfolding read_fault_text
returns-clause-read_fault c = refl

pub returns-clause-memory : goal.returns-clause-memory
unfolding memory_text
returns-clause-memory c = refl

pub returns-clause-usage : goal.returns-clause-usage
unfolding usage_text
returns-clause-usage c = refl
