use Rattle.std.proofs.Common.{refl}
use Rattle.record_layouts.specs.Unix.State.{start_of}
use Rattle.panic_rows.specs.Pairs.{report_at, reports_of_one, reports_with_first, reports_with_second, reports_with_third, reports_with_fourth, reports_with_fifth, reports_with_sixth, reports_with_seventh, three_hi_at, worked_run}
use Rattle.panic_rows.proofs.Worked.{rows}
use Rattle.panic_rows.proofs.Pairs.{runs}
use Rattle.panic_rows.proofs.rows.three_hi_with_panics.Goals as goal

pub returns-clause-run : goal.returns-clause-run
returns-clause-run c world images fuel worked made all = runs world images fuel (start_of world.load) worked made all

pub returns-clause-one : goal.returns-clause-one
unfolding rows report_at three_hi_at worked_run reports_of_one
returns-clause-one c = refl

pub returns-clause-with_first : goal.returns-clause-with_first
unfolding rows report_at three_hi_at worked_run reports_with_first
returns-clause-with_first c = refl

pub returns-clause-with_second : goal.returns-clause-with_second
unfolding rows report_at three_hi_at worked_run reports_with_second
returns-clause-with_second c = refl

pub returns-clause-with_third : goal.returns-clause-with_third
unfolding rows report_at three_hi_at worked_run reports_with_third
returns-clause-with_third c = refl

pub returns-clause-with_fourth : goal.returns-clause-with_fourth
unfolding rows report_at three_hi_at worked_run reports_with_fourth
returns-clause-with_fourth c = refl

pub returns-clause-with_fifth : goal.returns-clause-with_fifth
unfolding rows report_at three_hi_at worked_run reports_with_fifth
returns-clause-with_fifth c = refl

pub returns-clause-with_sixth : goal.returns-clause-with_sixth
unfolding rows report_at three_hi_at worked_run reports_with_sixth
returns-clause-with_sixth c = refl

pub returns-clause-with_seventh : goal.returns-clause-with_seventh
unfolding rows report_at three_hi_at worked_run reports_with_seventh
returns-clause-with_seventh c = refl
