use Rattle.std.proofs.Common.{◌/◌, arith}
use Rattle.ow_base.proofs.Spelled.{eight, first_of_word, second_of_word, joined}
use Rattle.ow_base.proofs.numerals.hex8.Goals as goal

pub returns-in_default-clause-none : goal.returns-in_default-clause-none
returns-in_default-clause-none c w small e = omega (arith, eight c.args.text.now w e)

pub returns-in_default-2-clause-none : goal.returns-in_default-2-clause-none
returns-in_default-2-clause-none c w small e = omega (arith, eight c.args.text.now w e)

pub returns-in_default-hex4-clause-none : goal.returns-in_default-hex4-clause-none
returns-in_default-hex4-clause-none c w small e = c.in_default-hex4.ensures.none (w / 65536) (first_of_word c.args.text.now w e)

pub returns-in_default-hex4-2-clause-none : goal.returns-in_default-hex4-2-clause-none
returns-in_default-hex4-2-clause-none c w small e = c.in_default-hex4-2.ensures.none w (second_of_word c.args.text.now w e)

pub returns-clause-found : goal.returns-clause-found
returns-clause-found c = joined c.args.text.now c.in-Some.high c.in-Some-hex4.low (omega arith) c.in-Some-hex4.ensures.small c.in-Some.ensures.found c.in-Some-hex4.ensures.found
