use Rattle.record_layouts.proofs.Alike.{same_gate, same_left, same_records, sound_too}
use Rattle.record_layouts.proofs.left_laws.alike_images_say_the_same.Goals as goal

pub returns-clause-records : goal.returns-clause-records
returns-clause-records c = same_records

pub returns-clause-gate : goal.returns-clause-gate
returns-clause-gate c = same_gate

pub returns-clause-left : goal.returns-clause-left
returns-clause-left c = same_left

pub returns-clause-sound : goal.returns-clause-sound
returns-clause-sound c = sound_too
