use Rattle.record_layouts.proofs.Intents.{open_ranges-same}
use Rattle.record_layouts.proofs.overlay_laws.the_block_decides.Goals as goal

pub returns : goal.returns
returns c = open_ranges-same
