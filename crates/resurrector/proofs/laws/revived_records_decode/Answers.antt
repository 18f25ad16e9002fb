use Rattle.record_layouts.specs.Values.{are_values}
use Rattle.resurrector.proofs.Whole.{all_decode}
use Rattle.resurrector.proofs.laws.revived_records_decode.Goals as goal

pub returns-clause-complete : goal.returns-clause-complete
returns-clause-complete c = all_decode

pub returns-clause-values : goal.returns-clause-values
returns-clause-values c = λ dead words own map read. are_values map own
