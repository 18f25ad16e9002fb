use Rattle.frame_table.proofs.Keeping.{tables_keep}
use Rattle.frame_table.proofs.kept_laws.uncounted_words_move_no_page.Goals as goal

pub returns-clause-tables : goal.returns-clause-tables
returns-clause-tables c = λ r frame hit value unused. tables_keep r frame hit value unused
