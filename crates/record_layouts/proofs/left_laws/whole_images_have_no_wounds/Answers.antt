use Rattle.record_layouts.proofs.LeftImages.{whole}
use Rattle.record_layouts.proofs.left_laws.whole_images_have_no_wounds.Goals as goal

pub returns : goal.returns
returns c = λ i h arrived most trap steps traps is. whole i most trap is h arrived steps traps
