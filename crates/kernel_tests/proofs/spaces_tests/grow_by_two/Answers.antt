use Rattle.std.proofs.Common.{arith, sym}
use Rattle.intent_store.specs.Live.{records_held}
use Rattle.kernel_tests.proofs.Conditions.{can_grow}
use Rattle.kernel_tests.proofs.spaces_tests.grow_by_two.Goals as goal

pub grow-requires-clause-can : goal.grow-requires-clause-can
grow-requires-clause-can c =
    can_grow (records_held c.new-live.result.plant.now) 2 2 16 c.in-Some.process (sym c.in-Some.ensures.record) (omega arith) (omega arith) (omega arith)
