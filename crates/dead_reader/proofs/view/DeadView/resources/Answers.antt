use Rattle.record_layouts.specs.Values.{are_values}
use Rattle.dead_reader.proofs.Records.{dead_descs}
use Rattle.dead_reader.proofs.view.DeadView.resources.Goals as goal

pub bits_lost-requires-clause-descriptors : goal.bits_lost-requires-clause-descriptors
bits_lost-requires-clause-descriptors g c = dead_descs _ _ c.args.p.now.slot c.args.p.now (are_values _ _) c.requires
