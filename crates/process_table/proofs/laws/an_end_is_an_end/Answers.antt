use Rattle.std.proofs.Common.{◌+◌, ◌∙◌, ap}
use Rattle.record_layouts.specs.Held.{Records}
use Rattle.record_layouts.specs.Decode.{InKernel, unix_of}
use Rattle.process_table.proofs.Endings.{ended_are}
use Rattle.process_table.proofs.EndedUnix.{ended_unix}
use Rattle.process_table.proofs.laws.an_end_is_an_end.Goals as goal

pub returns : goal.returns
returns c r head slot process status trap words tapes context steps traps p sound is_head is word of held =
    ap (λ (x : Records). unix_of x words tapes InKernel (steps + 1) (traps + 1)) (ended_are r head slot process status trap)
    ∙ ended_unix r head slot process status trap words tapes context steps traps p sound is_head is word of held
