use Rattle.std.proofs.Common.{◌≡◌, ◌∙◌, Some, ap, sym}
use Rattle.record_layouts.specs.Held.{Records}
use Rattle.intent_store.specs.Live.{records_held}
use Rattle.kernel_traps.proofs.KernelServed.{piece_next}
use Rattle.kernel_traps.proofs.Stays.{view_is}
use Rattle.kernel_traps.proofs.serving.piece_in.Goals as goal

pub returns : goal.returns
returns c =
    let s = c.args.plant.now in
    let view = view_is s c.live_records-view.result.source.now c.live_records-view.result.map c.live_records-view.ensures.source c.live_records-view.ensures.map in
    let reads : (records_held s).procs c.args.slot ≡ Some c.unwrap-process.result =
    ap (λ (r : Records). r.procs c.args.slot) (sym view) ∙ (sym c.proc.ensures.record ∙ c.unwrap-process.ensures) in
    piece_next s c.args.slot c.unwrap-process.result c.requires.sound c.requires.in_kernel c.requires.work reads
