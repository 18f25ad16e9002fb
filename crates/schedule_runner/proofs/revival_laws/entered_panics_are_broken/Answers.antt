use Rattle.schedule_runner.proofs.EnteredPanics.{entered_broken, entered_left}
use Rattle.schedule_runner.proofs.revival_laws.entered_panics_are_broken.Goals as goal

pub returns-clause-broken : goal.returns-clause-broken
returns-clause-broken c = entered_broken

pub returns-clause-unix : goal.returns-clause-unix
returns-clause-unix c = entered_left
