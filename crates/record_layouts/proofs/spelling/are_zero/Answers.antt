use Rattle.record_layouts.proofs.Records.{zeros_of_range, range_of_zeros}
use Rattle.record_layouts.proofs.spelling.are_zero.Goals as goal

pub returns : goal.returns
returns c = (
  λ yes. zeros_of_range c.args.words.now c.args.first c.args.end c.requires.order c.requires.within (c.all_zero.ensures.0 yes),
  λ all. c.all_zero.ensures.1 (range_of_zeros c.args.words.now c.args.first c.args.end c.requires.order c.requires.within all),
)
