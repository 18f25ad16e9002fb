use Rattle.process_table.proofs.Running.{signal_is, signal_range}
use Rattle.process_table.proofs.Signalling.{signal_unix}
use Rattle.process_table.proofs.laws.signals_agree.Goals as goal

pub returns-clause-next : goal.returns-clause-next
returns-clause-next c r words slot process sound is =
    let held = sound.numbered.signals slot process is in
    signal_is r words slot process held.0 held.1

pub returns-clause-does : goal.returns-clause-does
returns-clause-does c r head slot process signals signal trap words tapes steps traps sound is_head is there next =
    let range = signal_range process signals signal next in
    signal_unix r head slot process signals signal trap words tapes steps traps sound is_head is there range.0 range.1
