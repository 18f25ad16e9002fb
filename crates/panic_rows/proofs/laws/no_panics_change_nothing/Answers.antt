use Rattle.std.proofs.Common.{[], refl}
use Rattle.record_layouts.specs.Unix.State.{start_of}
use Rattle.panic_rows.proofs.Quiet.{with_none, without, history_is_empty, same_report}
use Rattle.panic_rows.proofs.laws.no_panics_change_nothing.Goals as goal

pub returns-clause-run : goal.returns-clause-run
returns-clause-run c world images e w none run = with_none world images (start_of world.load) [] e w none refl run

pub returns-clause-back : goal.returns-clause-back
returns-clause-back c world images e w run = without world images (start_of world.load) [] e w run

pub returns-clause-report : goal.returns-clause-report
returns-clause-report c e w = same_report e w

pub returns-clause-history : goal.returns-clause-history
returns-clause-history c world images history told e w none run = history_is_empty world images (start_of world.load) history told e w none run
