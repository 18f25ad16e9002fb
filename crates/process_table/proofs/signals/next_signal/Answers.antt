use Rattle.std.proofs.Common.{◌≡◌, Some, arith}
use Rattle.std.proofs.lemmas.Grind.{common_steps}
use Rattle.record_layouts.specs.Unix.Choice.{least_from}
use Rattle.record_layouts.specs.Decode.{is_pending}
use Rattle.process_table.specs.Choosing.{next_signal}
use Rattle.process_table.proofs.Least.{least_by}
use Rattle.process_table.proofs.signals.next_signal.Goals as goal

pub returns-else-process-eq1-clause-same : goal.returns-else-process-eq1-clause-same
unfolding next_signal
returns-else-process-eq1-clause-same c =
    let least : c.least_pending.result ≡ least_from (is_pending (Some c.args.signals.now)) 1 15 =
    least_by (is_pending (Some c.args.signals.now)) 1 15 c.least_pending.result c.least_pending.ensures.found c.least_pending.ensures.none in
    grind (arith, common_steps)
