use Rattle.std.proofs.Common.{◌≡◌, ◌<◌, length, arith, inl, inr}
use Rattle.std.proofs.lemmas.Bool.Decides.{nat_tests}
use Rattle.word_store.proofs.Outcomes.{on_ok, on_err, at_err}
use Rattle.intent_store.proofs.Payloads.{payload-some}
use Rattle.intent_store.proofs.Reading.{ends-opened, readable-opened, rolled-gate, seen-reads, seen-rolled, seen-shut, seen-then, set-before, set-none, set-opened}
use Rattle.intent_store.proofs.commit.commit.Goals as goal

pub returns-then-is_empty-clause-ok : goal.returns-then-is_empty-clause-ok
returns-then-is_empty-clause-ok g c =
    let none : length c.args.patch.now ≡ 0 = grind (arith, nat_tests) in
    set-none c.args.patch.now _ _ none (seen-rolled _ _ c.requires.readable c.in_ok-roll_forward.ensures.ok)

pub returns-then-is_empty-clause-shut : goal.returns-then-is_empty-clause-shut
returns-then-is_empty-clause-shut g c = rolled-gate _ _ c.in_ok-roll_forward.ensures.ok

pub open-requires-clause-shut : goal.open-requires-clause-shut
open-requires-clause-shut g c = rolled-gate _ _ c.in_ok-roll_forward.ensures.ok

pub returns-in_err-end-clause-err : goal.returns-in_err-end-clause-err
returns-in_err-end-clause-err g c =
    let first = c.in_ok-roll_forward.ensures.ok in
    at_err c.from_residual-in_err-end.result _ (inl (seen-then _ _ _ (seen-rolled _ _ c.requires.readable first) (seen-shut _ _ (rolled-gate _ _ first) c.in_err-end.ensures.err)))

pub carry_out-requires-clause-open : goal.carry_out-requires-clause-open
carry_out-requires-clause-open g c =
    let opened = c.in_ok-end.ensures.ok in
    let some : 0 < length c.args.patch.now = grind (arith, nat_tests) in
    ends-opened _ c.args.patch.now opened.payload (rolled-gate _ _ c.in_ok-roll_forward.ensures.ok) opened.is c.requires.patch (payload-some _ _ opened.is some) opened.fits _ _ opened.opens opened.ends

pub returns-clause-ok : goal.returns-clause-ok
returns-clause-ok g c =
    let opened = c.in_ok-end.ensures.ok in
    let some : 0 < length c.args.patch.now = grind (arith, nat_tests) in
    let words = payload-some _ _ opened.is some in
    let set = set-opened c.args.patch.now opened.payload _ _ _ c.requires.readable c.in_ok-roll_forward.ensures.ok opened.is c.requires.patch words opened.fits opened.opens in
    let readable = readable-opened _ c.args.patch.now opened.payload (rolled-gate _ _ c.in_ok-roll_forward.ensures.ok) opened.is c.requires.patch words opened.fits _ opened.opens in
    on_ok c.carry_out.result _ _ (λ e. set-before c.args.patch.now _ _ _ set (seen-rolled _ _ readable e)) c.carry_out.ensures.ok

pub returns-clause-shut : goal.returns-clause-shut
returns-clause-shut g c = on_ok c.carry_out.result _ _ (λ e. rolled-gate _ _ e) c.carry_out.ensures.ok

pub returns-clause-err : goal.returns-clause-err
returns-clause-err g c =
    let opened = c.in_ok-end.ensures.ok in
    let some : 0 < length c.args.patch.now = grind (arith, nat_tests) in
    let set = set-opened c.args.patch.now opened.payload _ _ _ c.requires.readable c.in_ok-roll_forward.ensures.ok opened.is c.requires.patch (payload-some _ _ opened.is some) opened.fits opened.opens in
    on_err c.carry_out.result _ _ (λ e. inr (set-before c.args.patch.now _ _ _ set (seen-reads _ _ e))) c.carry_out.ensures.err
