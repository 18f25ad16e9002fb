use Rattle.std.proofs.Common.{◌∙◌, sym, arith}
use Rattle.ow_base.proofs.Sealing.{broken}
use Rattle.panic_handover.proofs.Spelled.{are_spelled}
use Rattle.panic_handover.proofs.hand_over.hand_overs_are_spelled_once.Goals as goal

pub returns-clause-words : goal.returns-clause-words
returns-clause-words c some others hand_over is is_too = are_spelled some hand_over is ∙ sym (are_spelled others hand_over is_too)

pub returns-clause-changed : goal.returns-clause-changed
returns-clause-changed c words hand_over is i value within small new other is_after =
    broken words i value is.all_words (omega (arith, is.long)) (omega (arith, is.long)) small new is.seal is_after.seal
