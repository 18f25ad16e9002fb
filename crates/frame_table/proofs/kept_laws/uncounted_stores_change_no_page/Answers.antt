use Rattle.frame_table.proofs.Kept.{frame_words, owner_stored, table_stored}
use Rattle.frame_table.proofs.kept_laws.uncounted_stores_change_no_page.Goals as goal

pub returns-clause-owner : goal.returns-clause-owner
returns-clause-owner g c = λ h i value free claims. owner_stored h i value free claims

pub returns-clause-table : goal.returns-clause-table
returns-clause-table g c = λ h slot table word value within third unused. table_stored h slot table word value within third unused

pub returns-clause-frame : goal.returns-clause-frame
returns-clause-frame g c = λ h number hit value free beside. frame_words h number hit value free beside
