use Rattle.frame_table.proofs.Users.{free_or_pages}
use Rattle.frame_table.proofs.laws.frames_are_free_or_pages.Goals as goal

pub returns : goal.returns
returns c = λ r words of values have. free_or_pages r words of values have
