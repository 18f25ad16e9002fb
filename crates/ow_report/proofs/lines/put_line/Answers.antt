use Rattle.std.proofs.Common.{[], ◌∷◌, ◌++◌}
use Rattle.std.specs.Prelude.{flat_map}
use Rattle.ow_base.proofs.Writing.{cut}
use Rattle.ow_report.proofs.Reports.{begun, further, broken, finished}
use Rattle.ow_report.specs.Writing.{next_token, line_text}
use Rattle.ow_report.proofs.lines.put_line.Goals as goal

pub returns-in-Err-clause-writes : goal.returns-in-Err-clause-writes
unfolding line_text
returns-in-Err-clause-writes g c =
    cut c.args.key.now (flat_map next_token c.args.tokens.now ++ 10 ∷ []) _ _ c.in-Err.ensures.writes

pub returns-in-Err-put_tokens-clause-writes : goal.returns-in-Err-put_tokens-clause-writes
unfolding line_text
returns-in-Err-put_tokens-clause-writes g c =
    let key = c.args.key.now in
    let words = flat_map next_token c.args.tokens.now in
    broken (line_text key c.args.tokens.now) words (10 ∷ []) _ _ _
    (further (line_text key c.args.tokens.now) key (words ++ 10 ∷ []) _ _ _ (begun (line_text key c.args.tokens.now) _) c.in-Ok.ensures.writes)
    c.in-Err-put_tokens.ensures.writes

pub returns-in-Ok-put_tokens-clause-writes : goal.returns-in-Ok-put_tokens-clause-writes
unfolding line_text
returns-in-Ok-put_tokens-clause-writes g c =
    let key = c.args.key.now in
    let words = flat_map next_token c.args.tokens.now in
    finished _ (line_text key c.args.tokens.now) (10 ∷ []) _ _ _
    (further (line_text key c.args.tokens.now) words (10 ∷ []) _ _ _
    (further (line_text key c.args.tokens.now) key (words ++ 10 ∷ []) _ _ _ (begun (line_text key c.args.tokens.now) _) c.in-Ok.ensures.writes)
    c.in-Ok-put_tokens.ensures.writes)
    c.put_all-in-Ok-put_tokens.ensures.writes
