-- A lemma on the worked worlds says it.
use Rattle.ow_base.specs.Outside.{Rose}
use Rattle.otherworld.proofs.Worked.{one_answer}
use Rattle.otherworld.proofs.rows.hi_has_one_answer.Goals as goal

pub returns : goal.returns
returns c left written all old new answer reads more_reads writes more_writes =
    one_answer left (Rose reads more_reads) old new (Rose writes more_writes) written all answer
