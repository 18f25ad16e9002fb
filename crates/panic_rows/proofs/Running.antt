-- Runs of so many turns, of a panic, and of turns again.
use Rattle.std.proofs.Common.{◌≡◌, ◌∙◌, ℕ, zero, suc, Bool, true, ◌&&◌, List, [], ◌∷◌, Option, Some, None, refl, sym, ap, subst}
use Rattle.std.specs.Prelude.{is_none}
use Rattle.std.proofs.lemmas.Bool.{and_parts}
use Rattle.ow_base.specs.declared.worlds.World.{World}
use Rattle.ow_base.specs.declared.worlds.Ending.{Ending}
use Rattle.ow_base.specs.declared.worlds.PanicRecord.{PanicRecord}
use Rattle.record_layouts.specs.Unix.State.{Unix, start_of}
use Rattle.record_layouts.specs.Unix.Turn.{turn, ending_of, closed}
use Rattle.record_layouts.specs.Unix.Wounds.{Wounds}
use Rattle.record_layouts.specs.Unix.Abort.{abort, fates}
use Rattle.record_layouts.specs.Unix.Panics.{Images, Due, IsPanicEntry, due_at, RunsWith, RunWith, Ends, GoesOn, Panics, state_left, revived_from}
use Rattle.record_layouts.specs.declared.fates.Fate.{Fate}
use Rattle.panic_rows.specs.Rows.{turned_on, after}

-- a run goes on, and no panic is due, before each of so many turns
unfoldable pub passes : World → Unix → (count : ℕ) → Bool
passes world u zero = true
passes world u (suc n) = (is_none (ending_of world.load.shape u) && is_none (due_at world u)) && passes world (turn world.load.shape u) n

is_none-None : {A : Type 0} (o : Option A) → is_none o ≡ true → o ≡ None
is_none-None None h = refl
is_none-None (Some a) h = absurd (cc h)

module _ (world : World) (images : Images) where
  -- so many turns, and a run from there
  pub run_on : (u : Unix) (n : ℕ) (h : List PanicRecord) (told : List (List (ℕ × Fate))) (e : Ending) (w : Unix)
      → passes world u n ≡ true → RunsWith world images (turned_on world.load.shape u n) h told e w → RunsWith world images u h told e w
  unfolding passes turned_on
  run_on u zero h told e w all run = run
  run_on u (suc n) h told e w all run =
      let parts = and_parts (is_none (ending_of world.load.shape u) && is_none (due_at world u)) (passes world (turn world.load.shape u) n) all in
      let now = and_parts (is_none (ending_of world.load.shape u)) (is_none (due_at world u)) parts.0 in
      GoesOn u h told e w (is_none-None (due_at world u) now.1) (is_none-None (ending_of world.load.shape u) now.0)
      (run_on (turn world.load.shape u) n h told e w parts.1 run)

  -- a panic whose entry stands for this state and these wounds, and a run from what is revived
  pub run_over : (u v : Unix) (x : Wounds) (due : Due) (r : PanicRecord) (h : List PanicRecord) (told : List (List (ℕ × Fate))) (e : Ending) (w : Unix)
      → due_at world u ≡ Some due → state_left images u due r ≡ v → images.wounds r ≡ x → IsPanicEntry u due r v
      → RunsWith world images (abort v x) h told e w → RunsWith world images u (r ∷ h) (fates v x ∷ told) e w
  run_over u v x due r h told e w is state wounds panic run =
      let was = state_left images u due r in
      let from : revived_from images u due r ≡ abort v x = ap (λ (s : Unix). abort s (images.wounds r)) state ∙ ap (abort v) wounds in
      let told_is : fates was (images.wounds r) ≡ fates v x = ap (λ (s : Unix). fates s (images.wounds r)) state ∙ ap (fates v) wounds in
      let panic_is : IsPanicEntry u due r was = subst (λ (s : Unix). IsPanicEntry u due r s) (sym state) panic in
      let later : RunsWith world images (revived_from images u due r) h told e w = subst (λ (s : Unix). RunsWith world images s h told e w) (sym from) run in
      let all : RunsWith world images u (r ∷ h) (fates was (images.wounds r) ∷ told) e w = Panics u due r h told e w is panic_is later in
      subst (λ (f : List (ℕ × Fate)). RunsWith world images u (r ∷ h) (f ∷ told) e w) told_is all

  -- the run of a world with one panic: so many turns, the panic, so many turns, and the end
  pub run_of : (n m : ℕ) (v : Unix) (x : Wounds) (due : Due) (r : PanicRecord) (e : Ending)
      → passes world (start_of world.load) n ≡ true → due_at world (after world n) ≡ Some due
      → state_left images (after world n) due r ≡ v → images.wounds r ≡ x → IsPanicEntry (after world n) due r v
      → passes world (abort v x) m ≡ true → due_at world (turned_on world.load.shape (abort v x) m) ≡ None
      → ending_of world.load.shape (turned_on world.load.shape (abort v x) m) ≡ Some e
      → RunWith world images (r ∷ []) (fates v x ∷ []) e (closed (turned_on world.load.shape (abort v x) m))
  run_of n m v x due r e first is state wounds panic second over ending =
      let end = closed (turned_on world.load.shape (abort v x) m) in
      run_on (start_of world.load) n (r ∷ []) (fates v x ∷ []) e end first
      (run_over (after world n) v x due r [] [] e end is state wounds panic
      (run_on (abort v x) m [] [] e end second (Ends (turned_on world.load.shape (abort v x) m) e over ending)))
