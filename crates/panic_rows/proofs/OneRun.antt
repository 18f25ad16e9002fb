-- Two runs of one world with one history are one.
use Rattle.std.proofs.Common.{◌≡◌, ◌∙◌, ℕ, List, ◌∷◌, refl, sym, ap, subst}
use Rattle.ow_base.specs.declared.worlds.World.{World}
use Rattle.ow_base.specs.declared.worlds.Ending.{Ending}
use Rattle.ow_base.specs.declared.worlds.PanicRecord.{PanicRecord}
use Rattle.record_layouts.specs.Unix.State.{Unix}
use Rattle.record_layouts.specs.Unix.Turn.{turn}
use Rattle.record_layouts.specs.Unix.Abort.{fates}
use Rattle.record_layouts.specs.Unix.Panics.{Images, Due, RunsWith, Ends, GoesOn, Panics, state_left, revived_from}
use Rattle.record_layouts.specs.declared.fates.Fate.{Fate}

module _ (world : World) (images : Images) where
  pub one : (u : Unix) (h : List PanicRecord) (some other : List (List (ℕ × Fate))) (a b : Ending) (v w : Unix)
      → RunsWith world images u h some a v → RunsWith world images u h other b w → (some ≡ other) × (a ≡ b) × (v ≡ w)
  one u h s o a b v w (Ends u1 a1 d e) (Ends u2 b2 d2 f) = let same : a ≡ b = cc in (refl, same, refl)
  one u h s o a b v w (Ends u1 a1 d e) (GoesOn u2 h2 t2 b2 w2 d2 f r) = absurd (cc (e, f))
  one u h s o a b v w (GoesOn u1 h1 t1 a1 v1 d e r) (Ends u2 b2 d2 f) = absurd (cc (e, f))
  one u h s o a b v w (GoesOn u1 h1 t1 a1 v1 d e r) (GoesOn u2 h2 t2 b2 w2 d2 f q) = one (turn world.load.shape u) h s o a b v w r q
  one u h s o a b v w (GoesOn u1 h1 t1 a1 v1 d e r) (Panics u2 due2 r2 h2 t2 b2 w2 d2 is q) = absurd (cc (d, d2))
  one u h s o a b v w (Panics u1 due1 r1 h1 t1 a1 v1 d1 is1 q1) (GoesOn u2 h2 t2 b2 w2 d e r) = absurd (cc (d, d1))
  one u h s o a b v w (Panics u1 due1 r1 h1 t1 a1 v1 d1 is1 q1) (Panics u2 due2 r2 h2 t2 b2 w2 d2 is2 q2) =
      let same : due2 ≡ due1 = cc (d1, d2) in
      let later = one (revived_from images u1 due1 r1) h1 t1 t2 a1 b v1 w q1 (subst (λ (due : Due). RunsWith world images (revived_from images u1 due r1) h1 t2 b w) same q2) in (
        ap (λ (due : Due). fates (state_left images u1 due r1) (images.wounds r1) ∷ t1) (sym same)
            ∙ ap (λ t. fates (state_left images u1 due2 r1) (images.wounds r1) ∷ t) later.0,
        later.1,
        later.2,
      )
