use Rattle.process_table.proofs.Waiting.{live_agrees, waits_agree}
use Rattle.process_table.proofs.laws.waits_agree.Goals as goal

pub returns-clause-child : goal.returns-clause-child
returns-clause-child c = waits_agree

pub returns-clause-live : goal.returns-clause-live
returns-clause-live c = live_agrees
