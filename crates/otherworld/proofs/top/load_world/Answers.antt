use Rattle.std.proofs.Common.{refl, ap, Err, subst, List, ℕ, arith}
use Rattle.world_file.specs.WorldRefusals.{IsRefusedFault}
use Rattle.otherworld.proofs.Tops.{too_long, unread_intends}
use Rattle.otherworld.proofs.top.load_world.Goals as goal

pub returns-in-Err-TooLarge-clause-refused : goal.returns-in-Err-TooLarge-clause-refused
returns-in-Err-TooLarge-clause-refused g c = (refl, too_long _ _ (c.in-Err-TooLarge.ensures.too_large (ap Err c.in-Err-TooLarge.field-0-is)), refl, refl)

pub returns-in-Err-clause-refused : goal.returns-in-Err-clause-refused
returns-in-Err-clause-refused g c =
    let refused = subst (λ (b : List ℕ). IsRefusedFault b c.in-Err.fault) c.as_slice.ensures.value c.in-Err.ensures.refused in
    rw c.unread.ensures (unread_intends _ _ c.in-Ok.bytes.items _ c.args.plant.now c.in-Err.fault c.in-Ok.ensures.all (omega (arith, c.in-Ok.ensures.small, c.in-Ok.bytes.ok.0)) refused)
