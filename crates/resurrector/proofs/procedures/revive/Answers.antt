use Rattle.std.proofs.Common.{◌≡◌, true, sym, subst}
use Rattle.record_layouts.specs.declared.proc.ProcRec.{ProcRec}
use Rattle.record_layouts.specs.Pages.{is_live}
use Rattle.record_layouts.specs.Proc.{FitsProc}
use Rattle.resurrector.proofs.Reviving.{revived_fits, revived_live}
use Rattle.resurrector.proofs.procedures.revive.Goals as goal

pub returns-clause-fits : goal.returns-clause-fits
returns-clause-fits c = subst FitsProc (sym c.revived.ensures) (revived_fits c.args.p.now c.args.mask c.requires.fits c.requires.live)

pub returns-clause-live : goal.returns-clause-live
returns-clause-live c =
    subst (λ (p : ProcRec). is_live p ≡ true) (sym c.revived.ensures) (revived_live c.args.p.now c.args.mask c.requires.fits c.requires.live)
