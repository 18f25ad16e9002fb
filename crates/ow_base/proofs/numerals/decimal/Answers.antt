use Rattle.std.proofs.Common.{ap, arith, decimal, ◌∙◌, sym, refl}
use Rattle.ow_base.proofs.Spelled.{spelled, refused, no_leading_zero}
use Rattle.ow_base.proofs.numerals.decimal.Goals as goal

pub returns-in_default-clause-none : goal.returns-in_default-clause-none
returns-in_default-clause-none c n small e = refused c.args.text.now n small e c.in_default.ensures.none

pub returns-then-begins_with_zero-clause-none : goal.returns-then-begins_with_zero-clause-none
returns-then-begins_with_zero-clause-none c n small e =
    let zero = c.if-begins_with_zero.ensures.zero refl in
    no_leading_zero c.args.text.now n small e zero.0 zero.1

pub returns-clause-found : goal.returns-clause-found
returns-clause-found c =
    let found = c.in-Some.ensures.found in
    let first = c.if-begins_with_zero.ensures.none refl in
    spelled c.args.text.now found.0 (λ zero. omega (arith, first zero, found.0.0)) (omega (arith, found.1)) ∙ ap decimal (sym found.1)
