use Rattle.std.proofs.Common.{◌≡◌, take}
use Rattle.dead_reader.specs.Left.{handed_of}
use Rattle.resurrector.specs.Survivors.{fates_to}
use Rattle.resurrector.proofs.resurrecting.tell_all.Given as goal

abbrev pub invariant-loop-before : goal.invariant-loop-before
invariant-loop-before g l = record {
  told : l.fates.items ≡ take 16 (fates_to (g.V.RecordView.records l.left.view.now) (handed_of l.left.handed) l.before);
}
