use Rattle.record_layouts.specs.Unix.State.{start_of}
use Rattle.panic_rows.proofs.Coming.{comes, others}
use Rattle.panic_rows.proofs.laws.listed_panics_come.Goals as goal

pub returns-clause-come : goal.returns-clause-come
unfolding start_of
returns-clause-come c world images h told e w n line run at above within = comes world images (start_of world.load) h told e w n line run at above within

pub returns-clause-others : goal.returns-clause-others
returns-clause-others c world images h told e w n r run found = others world images (start_of world.load) h told e w n r run found
