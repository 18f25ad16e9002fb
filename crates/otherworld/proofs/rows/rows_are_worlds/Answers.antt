-- Computed by `refl`, or by the lemmas on the worked worlds.
use Rattle.otherworld.proofs.Worked.{exit_seven_world, hi_world, three_hi_world}
use Rattle.otherworld.proofs.rows.rows_are_worlds.Goals as goal

pub returns-clause-exit_seven : goal.returns-clause-exit_seven
returns-clause-exit_seven c = exit_seven_world

pub returns-clause-hi : goal.returns-clause-hi
returns-clause-hi c = hi_world

pub returns-clause-three_hi : goal.returns-clause-three_hi
returns-clause-three_hi c = three_hi_world
