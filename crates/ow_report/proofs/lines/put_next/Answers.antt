use Rattle.std.proofs.Common.{[], ◌∷◌}
use Rattle.ow_base.proofs.Writing.{then_writes}
use Rattle.ow_report.specs.Writing.{token_text}
use Rattle.ow_report.proofs.lines.put_next.Goals as goal

pub returns-in-Ok-clause-writes : goal.returns-in-Ok-clause-writes
returns-in-Ok-clause-writes g c =
    then_writes c.put_token.result (32 ∷ []) (token_text c.args.token) _ _ _ c.in-Ok.ensures.writes c.put_token.ensures.writes
