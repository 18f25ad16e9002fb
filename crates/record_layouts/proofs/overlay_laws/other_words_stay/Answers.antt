use Rattle.record_layouts.proofs.Intents.{overlay-beside}
use Rattle.record_layouts.proofs.overlay_laws.other_words_stay.Goals as goal

pub returns : goal.returns
returns c = overlay-beside
