use Rattle.std.proofs.Common.{◌≡◌, ◌∙◌, Some, ap, sym}
use Rattle.record_layouts.specs.Decode.{slot_by}
use Rattle.record_layouts.specs.Held.{Records}
use Rattle.intent_store.specs.Live.{records_held}
use Rattle.kernel_traps.proofs.Decoding.{pid_had}
use Rattle.kernel_traps.proofs.Stays.{view_is}
use Rattle.kernel_traps.proofs.TrapKinds.{slot_found}
use Rattle.kernel_traps.proofs.traps.slot_for.Goals as goal

pub slot_of-requires-clause-some : goal.slot_of-requires-clause-some
slot_of-requires-clause-some c =
    let had = c.requires.had in
    (pid_had (records_held c.args.plant.now) c.args.trap c.in-Some.pid had.0 c.requires.sound.records.values (sym c.pid.ensures ∙ c.in-Some.is) had.1).0

pub slot_of-requires-clause-pid : goal.slot_of-requires-clause-pid
slot_of-requires-clause-pid c =
    let had = c.requires.had in
    (pid_had (records_held c.args.plant.now) c.args.trap c.in-Some.pid had.0 c.requires.sound.records.values (sym c.pid.ensures ∙ c.in-Some.is) had.1).1

pub returns-in-Some : goal.returns-in-Some
returns-in-Some c =
    let s = c.args.plant.now in
    let view = view_is s c.live_records.result.source.now c.live_records.result.map c.live_records.ensures.source c.live_records.ensures.map in
    let exit : slot_by ((records_held s).exits c.in-Some.pid) ≡ Some c.slot_of.result = sym (ap (λ (r : Records). slot_by (r.exits c.in-Some.pid)) view) ∙ c.slot_of.ensures in
    slot_found (records_held s) c.args.trap c.in-Some.pid c.slot_of.result c.requires.sound.records.numbered (sym c.pid.ensures ∙ c.in-Some.is) c.requires.had exit
