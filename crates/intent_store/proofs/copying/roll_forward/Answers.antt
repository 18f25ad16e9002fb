use Rattle.intent_store.proofs.Changes.{rolled-shut}
use Rattle.intent_store.proofs.copying.roll_forward.Goals as goal

pub returns-in-None-clause-ok : goal.returns-in-None-clause-ok
returns-in-None-clause-ok g c = rolled-shut _ c.requires.readable c.in-None.ensures.none
