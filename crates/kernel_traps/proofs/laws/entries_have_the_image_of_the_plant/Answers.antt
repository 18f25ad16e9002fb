use Rattle.kernel_traps.proofs.Entries.{entry_alike}
use Rattle.kernel_traps.proofs.laws.entries_have_the_image_of_the_plant.Goals as goal

pub returns : goal.returns
returns c = entry_alike
