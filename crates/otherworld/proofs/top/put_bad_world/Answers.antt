use Rattle.std.proofs.Common.{[], ◌∷◌, ◌++◌, codes, decimal}
use Rattle.std.proofs.lemmas.Result.{err_from_is_err_and}
use Rattle.ow_base.specs.Lines.{line}
use Rattle.ow_base.proofs.Writing.{cut, shifted, then_writes}
use Rattle.world_file.specs.WorldReasons.{reason_text}
use Rattle.otherworld.specs.Top.{bad_world_text}
use Rattle.otherworld.proofs.top.put_bad_world.Goals as goal

pub returns-in_err-put_all-clause-writes : goal.returns-in_err-put_all-clause-writes
unfolding bad_world_text
returns-in_err-put_all-clause-writes g c =
    let p = err_from_is_err_and c.from_residual.result c.from_residual.ensures.1 in
    rw p.1 (cut (codes "bad world line ") (decimal c.args.line ++ (codes ": " ++ line (reason_text c.args.why))) _ _ c.in_err-put_all.ensures.writes)

pub returns-in_err-put_number-clause-writes : goal.returns-in_err-put_number-clause-writes
unfolding bad_world_text
returns-in_err-put_number-clause-writes g c =
    let p = err_from_is_err_and c.from_residual-in_err-put_number.result c.from_residual-in_err-put_number.ensures.1 in
    rw p.1 (shifted (codes "bad world line ") (decimal c.args.line ++ (codes ": " ++ line (reason_text c.args.why))) _ _ _ c.in_ok-put_all.ensures.writes
    (cut (decimal c.args.line) (codes ": " ++ line (reason_text c.args.why)) _ _ c.in_err-put_number.ensures.writes))

pub returns-in_err-put_all-2-clause-writes : goal.returns-in_err-put_all-2-clause-writes
unfolding bad_world_text
returns-in_err-put_all-2-clause-writes g c =
    let p = err_from_is_err_and c.from_residual-in_err-put_all-2.result c.from_residual-in_err-put_all-2.ensures.1 in
    rw p.1 (shifted (codes "bad world line ") (decimal c.args.line ++ (codes ": " ++ line (reason_text c.args.why))) _ _ _ c.in_ok-put_all.ensures.writes
    (shifted (decimal c.args.line) (codes ": " ++ line (reason_text c.args.why)) _ _ _ c.in_ok-put_number.ensures.writes
    (cut (codes ": ") (line (reason_text c.args.why)) _ _ c.in_err-put_all-2.ensures.writes)))

pub returns-in_err-put_all-3-clause-writes : goal.returns-in_err-put_all-3-clause-writes
unfolding bad_world_text
returns-in_err-put_all-3-clause-writes g c =
    let p = err_from_is_err_and c.from_residual-in_err-put_all-3.result c.from_residual-in_err-put_all-3.ensures.1 in
    rw p.1 (shifted (codes "bad world line ") (decimal c.args.line ++ (codes ": " ++ line (reason_text c.args.why))) _ _ _ c.in_ok-put_all.ensures.writes
    (shifted (decimal c.args.line) (codes ": " ++ line (reason_text c.args.why)) _ _ _ c.in_ok-put_number.ensures.writes
    (shifted (codes ": ") (line (reason_text c.args.why)) _ _ _ c.in_ok-put_all-2.ensures.writes
    (cut (reason_text c.args.why) (10 ∷ []) _ _ (rw c.text.ensures at c.in_err-put_all-3.ensures.writes)))))

pub returns-clause-writes : goal.returns-clause-writes
unfolding bad_world_text
returns-clause-writes g c =
    then_writes c.put_all-4.result (codes "bad world line ") (decimal c.args.line ++ (codes ": " ++ line (reason_text c.args.why))) _ _ _ c.in_ok-put_all.ensures.writes
    (then_writes c.put_all-4.result (decimal c.args.line) (codes ": " ++ line (reason_text c.args.why)) _ _ _ c.in_ok-put_number.ensures.writes
    (then_writes c.put_all-4.result (codes ": ") (line (reason_text c.args.why)) _ _ _ c.in_ok-put_all-2.ensures.writes
    (then_writes c.put_all-4.result (reason_text c.args.why) (10 ∷ []) _ _ _ (rw c.text.ensures at c.in_ok-put_all-3.ensures.writes) c.put_all-4.ensures.writes)))
