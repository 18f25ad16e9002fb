use Rattle.record_layouts.specs.Least.{NonePasses}
use Rattle.dead_reader.specs.Losses.{loses_at}
use Rattle.dead_reader.proofs.losses.one_loses.Given as goal

abbrev pub invariant-loop-k : goal.invariant-loop-k
invariant-loop-k g l = record { below : NonePasses (loses_at (g.V.RecordView.records l.view) l.loss l.descriptors) 0 l.k }
