use Rattle.schedule_runner.proofs.Revivals.{fates_same, sound_after, unix_after}
use Rattle.schedule_runner.proofs.revival_laws.revived_plants_are_of_abort.Goals as goal

pub returns-clause-sound : goal.returns-clause-sound
returns-clause-sound c = sound_after

pub returns-clause-unix : goal.returns-clause-unix
returns-clause-unix c = unix_after

pub returns-clause-fates : goal.returns-clause-fates
returns-clause-fates c = fates_same
