use Rattle.frame_table.proofs.Kept.{pages_kept, pages_on}
use Rattle.frame_table.proofs.kept_laws.kept_pages_have_their_bytes.Goals as goal

pub returns-clause-pages : goal.returns-clause-pages
returns-clause-pages g c = λ h new slot process keeps at fits. pages_kept h new keeps slot process at fits

pub returns-clause-again : goal.returns-clause-again
returns-clause-again g c = λ h middle new one two. pages_on h middle new one two
