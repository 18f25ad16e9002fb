use Rattle.std.proofs.Common.{sym, subst}
use Rattle.record_layouts.specs.Sound.{AreSound}
use Rattle.process_table.proofs.Endings.{ended_are}
use Rattle.process_table.proofs.EndedSound.{ended_sound}
use Rattle.process_table.proofs.Running.{signal_range}
use Rattle.process_table.proofs.Saving.{saved_sound}
use Rattle.process_table.proofs.Signalling.{signal_sound}
use Rattle.process_table.proofs.laws.sound_records_stay_sound.Goals as goal

pub returns-clause-ended : goal.returns-clause-ended
returns-clause-ended c r head slot process status trap sound is_head is word =
    subst AreSound (sym (ended_are r head slot process status trap)) (ended_sound r head slot process status trap sound is_head is word)

pub returns-clause-saved : goal.returns-clause-saved
returns-clause-saved c r head slot process bank trap sound is_head is out = saved_sound r head slot process bank trap sound is_head is out

pub returns-clause-signalled : goal.returns-clause-signalled
returns-clause-signalled c r head slot process signals signal trap sound is_head is there next =
    let range = signal_range process signals signal next in
    signal_sound r head slot process signals signal trap sound is_head is there range.0 range.1
