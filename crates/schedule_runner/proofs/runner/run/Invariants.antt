use Rattle.schedule_runner.specs.Progress.{HasCome, to_come}
use Rattle.schedule_runner.proofs.runner.run.Given as goal

abbrev pub invariant-loop-ending : goal.invariant-loop-ending
invariant-loop-ending l = HasCome l.load l.fn.plant.points l.plant l.log

abbrev pub decreases-loop-ending : goal.decreases-loop-ending
decreases-loop-ending l = to_come l.plant
