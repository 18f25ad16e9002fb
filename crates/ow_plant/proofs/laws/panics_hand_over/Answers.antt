use Rattle.ow_plant.proofs.Loans.{read_again}
use Rattle.ow_plant.proofs.laws.panics_hand_over.Goals as goal

pub returns-clause-read : goal.returns-clause-read
returns-clause-read c = read_again
