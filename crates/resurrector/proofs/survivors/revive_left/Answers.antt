use Rattle.std.proofs.Common.{◌<◌, ℕ, sym, subst}
use Rattle.record_layouts.specs.Values.{are_values}
use Rattle.resurrector.proofs.Reviving.{bits_few, dead_fits, dead_live}
use Rattle.resurrector.proofs.survivors.revive_left.Goals as goal

pub revive-requires-clause-mask : goal.revive-requires-clause-mask
revive-requires-clause-mask g c = subst (λ (bits : ℕ). bits < 16) (sym c.resources.ensures) (bits_few _ _ _)

pub revive-requires-clause-fits : goal.revive-requires-clause-fits
revive-requires-clause-fits g c = dead_fits _ _ c.args.p.now.slot c.args.p.now (are_values _ _) c.requires

pub revive-requires-clause-live : goal.revive-requires-clause-live
revive-requires-clause-live g c = dead_live _ _ c.args.p.now.slot c.args.p.now c.requires
