use Rattle.std.proofs.Common.{rules, sym}
use Rattle.ow_plant.proofs.Handed.{few_hand_nothing}
use Rattle.ow_plant.proofs.dead_memory.hand_over_in.Goals as goal

pub returns-then-words-lt40 : goal.returns-then-words-lt40
returns-then-words-lt40 c = sym (few_hand_nothing c.args.words.now (search rules))
