use Rattle.std.proofs.Common.{◌∙◌}
use Rattle.world_file.specs.WorldLines.{fields, is_word}
use Rattle.world_file.proofs.WorldWords.{all_of_map}
use Rattle.world_file.proofs.line.Line.has_words.Goals as goal

pub returns : goal.returns
returns c = c.are_words.ensures ∙ all_of_map is_word c.fields.result.now (fields c.args.self.now) c.fields.ensures
