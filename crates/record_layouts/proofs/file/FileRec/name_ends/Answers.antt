use Rattle.std.proofs.Common.{rules}
use Rattle.record_layouts.proofs.Records.{zeros_of_range, range_of_zeros}
use Rattle.record_layouts.proofs.file.FileRec.name_ends.Goals as goal

pub returns : goal.returns
returns c = (
  λ yes. zeros_of_range c.args.self.now.name c.args.self.now.name_len 24 c.requires (search rules) (c.are_empty.ensures.0 yes),
  λ all. c.are_empty.ensures.1 (range_of_zeros c.args.self.now.name c.args.self.now.name_len 24 c.requires (search rules) all),
)
