use Rattle.kernel_builder.proofs.Blanks.{free_fits}
use Rattle.kernel_builder.proofs.blank.free_process.Goals as goal

pub returns-clause-fits : goal.returns-clause-fits
returns-clause-fits c = rw (c.new.ensures, c.blank_bank.ensures, c.blank_bank-2.ensures) free_fits
