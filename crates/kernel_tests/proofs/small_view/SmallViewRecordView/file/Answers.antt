use Rattle.kernel_tests.specs.Small.{file_fits}
use Rattle.kernel_tests.proofs.small_view.SmallViewRecordView.file.Goals as goal

pub returns-clause-fits : goal.returns-clause-fits
returns-clause-fits c = file_fits
