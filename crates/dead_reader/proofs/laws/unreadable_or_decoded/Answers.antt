use Rattle.dead_reader.proofs.Firsts.{decodes_where_none, one_first}
use Rattle.dead_reader.proofs.laws.unreadable_or_decoded.Goals as goal

pub returns-clause-decodes : goal.returns-clause-decodes
returns-clause-decodes c r slot pid = decodes_where_none r slot pid

pub returns-clause-first : goal.returns-clause-first
returns-clause-first c r slot pid = one_first r slot pid
