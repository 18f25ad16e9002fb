use Rattle.world_file.proofs.WorldAnswers.{each_text}
use Rattle.world_file.proofs.reader.each_text_is_answered.Goals as goal

pub returns : goal.returns
returns c = each_text
