use Rattle.record_layouts.proofs.Surviving.{aborted, is_answered, stands, stands_there}
use Rattle.record_layouts.proofs.panic_laws.calls_are_undone.Goals as goal

pub returns-clause-stands : goal.returns-clause-stands
returns-clause-stands c v pid number p live call plain again = (stands v pid p live plain number call again, stands_there v pid p live plain number call again)

pub returns-clause-aborted : goal.returns-clause-aborted
returns-clause-aborted c v pid number p live call plain once = (aborted v pid p live plain number call once, is_answered v pid p live plain number call once)
