use Rattle.syscalls.proofs.Exported.{goes_on_then}
use Rattle.syscalls.proofs.WordsStay.{words_stay}
use Rattle.syscalls.proofs.laws.pieces_go_on.Goals as goal

pub returns-clause-unix : goal.returns-clause-unix
returns-clause-unix c = goes_on_then

pub returns-clause-words : goal.returns-clause-words
returns-clause-words c = words_stay
