use Rattle.std.proofs.Common.{◌∙◌, ap, is_some, sym}
use Rattle.ow_base.specs.declared.machine.Now.{Now}
use Rattle.record_layouts.specs.declared.memory_map.MemoryMap.{MemoryMap}
use Rattle.record_layouts.specs.Held.{Records}
use Rattle.record_layouts.specs.Reading.{records_in, records_of}
use Rattle.kernel_traps.proofs.Decoding.{head_decodes}
use Rattle.kernel_traps.proofs.Stays.{view_is}
use Rattle.kernel_traps.proofs.traps.service_for.Goals as goal

pub end_process-patch-requires-clause-head : goal.end_process-patch-requires-clause-head
end_process-patch-requires-clause-head c =
    let s = c.args.plant.now in
    let view = view_is s c.live_records-view.result.source.now c.live_records-view.result.map c.live_records-view.ensures.source c.live_records-view.ensures.map in
    ap (λ (r : Records). is_some r.head) view ∙ head_decodes s c.requires.sound

pub take_signal-patch-requires-clause-head : goal.take_signal-patch-requires-clause-head
take_signal-patch-requires-clause-head c =
    let s = c.args.plant.now in
    let view = view_is s c.live_records-view.result.source.now c.live_records-view.result.map c.live_records-view.ensures.source c.live_records-view.ensures.map in
    ap (λ (r : Records). is_some r.head) view ∙ head_decodes s c.requires.sound

pub only_served-patch-requires : goal.only_served-patch-requires
only_served-patch-requires c =
    let s = c.args.plant.now in
    let view = view_is s c.live_records-view.result.source.now c.live_records-view.result.map c.live_records-view.ensures.source c.live_records-view.ensures.map in
    record { head = ap (λ (r : Records). is_some r.head) view ∙ head_decodes s c.requires.sound }

pub save_bank-patch-requires-clause-head : goal.save_bank-patch-requires-clause-head
save_bank-patch-requires-clause-head c =
    let s = c.args.plant.now in
    let view = view_is s c.live_records-view.result.source.now c.live_records-view.result.map c.live_records-view.ensures.source c.live_records-view.ensures.map in
    ap (λ (r : Records). is_some r.head) view ∙ head_decodes s c.requires.sound

pub enter_call-requires-clause-frames : goal.enter_call-requires-clause-frames
unfolding records_of records_in
enter_call-requires-clause-frames c =
    ap (λ (n : Now). n.user_frames) c.now-now.ensures.now ∙ sym (ap (λ (m : MemoryMap). m.user_frames) c.live_records-view.ensures.map)
