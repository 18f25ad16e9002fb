use Rattle.std.proofs.Common.{sym, subst}
use Rattle.word_store.proofs.Outcomes.{either_way, on_err, on_ok}
use Rattle.intent_store.specs.Live.{IsUnstored}
use Rattle.intent_store.proofs.Unstored.{unstored_put, unstored_refused}
use Rattle.intent_store.proofs.live.Live.put.Goals as goal

pub returns-clause-unstored : goal.returns-clause-unstored
returns-clause-unstored c =
    let s = c.args.self.now.plant.now in
    either_way c.put.result _
    (on_ok c.put.result _ _ (λ is. subst (IsUnstored s) (sym is) (unstored_put s c.args.tty c.args.byte)) c.put.ensures.ok)
    (on_err c.put.result _ _ (λ is. subst (IsUnstored s) (sym is) (unstored_refused s)) c.put.ensures.err)
