use Rattle.process_table.proofs.Saving.{saved_unix}
use Rattle.process_table.proofs.laws.saves_only_count.Goals as goal

pub returns : goal.returns
returns c r head slot process bank trap words tapes count steps traps sound is_head is out =
    saved_unix r head slot process bank trap words tapes count steps traps sound is_head is out
