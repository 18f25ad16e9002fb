use Rattle.std.proofs.Common.{◌+◌, ◌++◌, take, Option, ap, ◌∙◌}
use Rattle.dead_reader.specs.Left.{handed_of}
use Rattle.resurrector.specs.Survivors.{told_of}
use Rattle.record_layouts.specs.declared.fates.Fate.{Fate}
use Rattle.resurrector.proofs.Telling.{next_fates}
use Rattle.resurrector.proofs.resurrecting.tell_all.Goals as goal

pub loop-before-preserved : goal.loop-before-preserved
loop-before-preserved g c =
    let r = g.V.RecordView.records c.args.left.now.view.now in
    let handed = handed_of c.args.left.now.handed in
    let before = c.loop-before.fates.items in
    let now = c.tell.new.fates.items in
    let told = c.tell.ensures ∙ ap (λ (fate : Option Fate). take 16 (before ++ told_of (c.loop-before.before + 1) fate)) c.fate_of.ensures.is in
    record { told = next_fates r handed c.loop-before.before before now c.loop-before.invariant.told told }
