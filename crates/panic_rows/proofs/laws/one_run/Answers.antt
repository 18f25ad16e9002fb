use Rattle.record_layouts.specs.Unix.State.{start_of}
use Rattle.panic_rows.proofs.OneRun.{one}
use Rattle.panic_rows.proofs.laws.one_run.Goals as goal

pub returns : goal.returns
returns c world images h some other a b v w r s = one world images (start_of world.load) h some other a b v w r s
