use Rattle.std.proofs.Common.{slice_index, ◌==◌}
use Rattle.record_layouts.specs.Least.{NonePasses}
use Rattle.resurrector.proofs.left.names.Given as goal

abbrev pub invariant-loop-k : goal.invariant-loop-k
invariant-loop-k l = record { below : NonePasses (λ k. slice_index l.descriptors k == l.word) 0 l.k }
