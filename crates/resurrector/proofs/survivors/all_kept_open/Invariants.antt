use Rattle.std.proofs.Common.{◌≡◌, map, take, drop, ◌++◌}
use Rattle.resurrector.specs.Survivors.{kept_open}
use Rattle.resurrector.proofs.survivors.all_kept_open.Given as goal

abbrev pub invariant-loop-k : goal.invariant-loop-k
invariant-loop-k g l = record {
  kept : l.kept ≡ map (kept_open (g.V.RecordView.records l.view)) (take l.k l.words) ++ drop l.k l.words;
}
