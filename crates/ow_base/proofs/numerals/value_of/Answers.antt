use Rattle.std.proofs.Common.{arith}
use Rattle.std.proofs.lemmas.Int.Digits.{digits_value_more, digits_more}
use Rattle.ow_base.proofs.Spelled.{no_value}
use Rattle.ow_base.proofs.numerals.value_of.Goals as goal

pub returns-in_default-clause-none : goal.returns-in_default-clause-none
returns-in_default-clause-none c = no_value c.args.digits.now c.loop-digit.digit-index c.loop-digit.value (omega arith) c.loop-digit.invariant.value c.in_default.ensures.none

pub loop-digit-preserved : goal.loop-digit-preserved
loop-digit-preserved c = record {
  digits = digits_more 10 c.args.digits.now c.loop-digit.digit-index (omega arith) c.loop-digit.invariant.digits c.in-Some.ensures.found.0;
  value = omega (arith, digits_value_more 10 c.args.digits.now c.loop-digit.digit-index (omega arith), c.loop-digit.invariant.value, c.in-Some.ensures.found.1);
}
