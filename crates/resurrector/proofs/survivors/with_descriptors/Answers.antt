use Rattle.resurrector.proofs.Descriptors.{closed_fits, descriptors_few}
use Rattle.resurrector.proofs.survivors.with_descriptors.Goals as goal

pub returns-clause-fits : goal.returns-clause-fits
returns-clause-fits g c = rw c.all_kept_open.ensures (closed_fits (g.V.RecordView.records c.args.view.now) c.args.process.now c.requires.fits c.requires.live)

pub all_kept_open-requires : goal.all_kept_open-requires
all_kept_open-requires g c = descriptors_few c.args.process.now c.requires.fits c.requires.live
