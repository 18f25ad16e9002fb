use Rattle.kernel_builder.proofs.Blanks.{unused_file_fits}
use Rattle.kernel_builder.proofs.blank.unused_file.Goals as goal

pub returns-clause-fits : goal.returns-clause-fits
returns-clause-fits c = unused_file_fits
