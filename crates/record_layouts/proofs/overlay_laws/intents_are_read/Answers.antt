use Rattle.record_layouts.proofs.Intents.{intent_of}
use Rattle.record_layouts.proofs.overlay_laws.intents_are_read.Goals as goal

pub returns-clause-only : goal.returns-clause-only
returns-clause-only c = intent_of
