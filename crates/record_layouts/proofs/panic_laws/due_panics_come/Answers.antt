use Rattle.std.proofs.Common.{◌≡◌, ℕ, List, ◌∷◌, Some, refl, subst}
use Rattle.ow_base.specs.declared.worlds.World.{World}
use Rattle.ow_base.specs.declared.worlds.Ending.{Ending}
use Rattle.ow_base.specs.declared.worlds.PanicRecord.{PanicRecord}
use Rattle.record_layouts.specs.Unix.State.{Unix}
use Rattle.record_layouts.specs.Unix.Panics.{Due, Ends, GoesOn, Images, IsPanicEntry, Panics, RunsWith, due_at, state_left}
use Rattle.record_layouts.specs.declared.fates.Fate.{Fate}
use Rattle.record_layouts.proofs.panic_laws.due_panics_come.Goals as goal

module _ (world : World) (images : Images) where
  comes : (u : Unix) (due : Due) (h : List PanicRecord) (told : List (List (ℕ × Fate))) (e : Ending) (w : Unix) → due_at world u ≡ Some due
      → RunsWith world images u h told e w → (r : PanicRecord) × (rest : List PanicRecord) × (h ≡ r ∷ rest) × IsPanicEntry u due r (state_left images u due r)
  comes u due h told e w is (Ends u1 e1 none ending) = absurd (cc (is, none))
  comes u due h told e w is (GoesOn u1 h1 t1 e1 w1 none on run) = absurd (cc (is, none))
  comes u due h told e w is (Panics u1 due1 r h1 t1 e1 w1 other entry run) =
      let same : due1 ≡ due = cc (is, other) in
      (r, h1, refl, subst (λ (d : Due). IsPanicEntry u1 d r (state_left images u1 d r)) same entry)

pub returns : goal.returns
returns c world images u due h told e w is run = comes world images u due h told e w is run
