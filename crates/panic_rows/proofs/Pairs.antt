-- The runs that are worked out are runs of their worlds.
use Rattle.std.proofs.Common.{◌≡◌, ℕ, zero, suc, ◌+◌, [], ◌∷◌, All, Option, Some, None, inl, refl, sym, subst}
use Rattle.std.specs.Prelude.{option_map}
use Rattle.std.proofs.lemmas.List.Elements.{All-head, All-tail}
use Rattle.ow_base.specs.declared.worlds.World.{World}
use Rattle.ow_base.specs.declared.worlds.Ending.{Ending}
use Rattle.record_layouts.specs.Unix.State.{Unix}
use Rattle.record_layouts.specs.Unix.Choice.{no_keys}
use Rattle.record_layouts.specs.Unix.Turn.{closed, ending_of, turn}
use Rattle.record_layouts.specs.Unix.Traps.{steps_in}
use Rattle.record_layouts.specs.Unix.Broken.{IsUndone}
use Rattle.record_layouts.specs.Unix.Wounds.{no_wounds}
use Rattle.record_layouts.specs.Unix.Panics.{Due, Ends, GoesOn, Images, RunsWith, due_at, state_left}
use Rattle.record_layouts.proofs.Counting.{broken_counts}
use Rattle.panic_rows.specs.Rows.{left_undone, revived}
use Rattle.panic_rows.specs.Pairs.{IsImaged, WorkedRun, entry_due, history_of, panic_worked, told_of, with_panic, worked_by, worked_run}
use Rattle.panic_rows.proofs.Running.{run_over}

module _ (world : World) (images : Images) where
  -- each run that is worked out from a state, where its panics are imaged, is one from there
  abbrev AreRuns : (rest : Unix → Option WorkedRun) → Type 0
  AreRuns rest = (u : Unix) (run : WorkedRun) → rest u ≡ Some run → All (IsImaged images) run.panics
      → RunsWith world images u (history_of run) (told_of run) run.ending run.last

  -- the words of the entry stand for the state that is left
  imaged : (u : Unix) (due : Due) → IsImaged images (panic_worked u due) → state_left images u due (entry_due u due) ≡ left_undone due.trap u
  imaged u due is =
      let left = left_undone due.trap u in
      let counts = broken_counts no_keys u due.trap left (IsUndone refl) in
      subst (λ (traps : ℕ). images.state (entry_due u due) (u.steps + steps_in due.trap) traps ≡ left) counts.1
      (subst (λ (steps : ℕ). images.state (entry_due u due) steps left.traps ≡ left) counts.0 is.0)

  over_panic : (rest : Unix → Option WorkedRun) → AreRuns rest → (u : Unix) (due : Due) → due_at world u ≡ Some due
      → (later : Option WorkedRun) → rest (revived (left_undone due.trap u)) ≡ later
      → (run : WorkedRun) → option_map (with_panic (panic_worked u due)) later ≡ Some run → All (IsImaged images) run.panics
      → RunsWith world images u (history_of run) (told_of run) run.ending run.last
  over_panic rest are u due is None from run made all = absurd (cc made)
  over_panic rest are u due is (Some later) from run made all =
      let same : with_panic (panic_worked u due) later ≡ run = cc made in
      let these : All (IsImaged images) (panic_worked u due ∷ later.panics) = subst (λ (r : WorkedRun). All (IsImaged images) r.panics) (sym same) all in
      let now = All-head (IsImaged images) (panic_worked u due) later.panics these in
      let left = left_undone due.trap u in
      let on = are (revived left) later from (All-tail (IsImaged images) (panic_worked u due) later.panics these) in
      let panics = run_over world images u left (no_wounds left) due (entry_due u due) (history_of later) (told_of later) later.ending later.last is
      (imaged u due now) now.1
      (record { trap = refl; pid = refl; listed = refl; point = inl (refl, refl); broken = IsUndone refl; unstored = λ e. refl; over = λ e. absurd (cc e); lines = refl; undamaged = λ e. refl; unbroken = refl })
      on in
      subst (λ (r : WorkedRun). RunsWith world images u (history_of r) (told_of r) r.ending r.last) same panics

  by_what_is_next : (rest : Unix → Option WorkedRun) → AreRuns rest → (u : Unix) (due : Option Due) → due_at world u ≡ due
      → (ending : Option Ending) → ending_of world.load.shape u ≡ ending → (run : WorkedRun) → worked_by world rest u due ending ≡ Some run
      → All (IsImaged images) run.panics → RunsWith world images u (history_of run) (told_of run) run.ending run.last
  by_what_is_next rest are u (Some due) is ending ends run made all =
      over_panic rest are u due is (rest (revived (left_undone due.trap u))) refl run made all
  by_what_is_next rest are u None is (Some ending) ends run made all =
      let same : record { panics = []; ending = ending; last = closed u } ≡ run = cc made in
      subst (λ (r : WorkedRun). RunsWith world images u (history_of r) (told_of r) r.ending r.last) same (Ends u ending is ends)
  by_what_is_next rest are u None is None ends run made all =
      GoesOn u (history_of run) (told_of run) run.ending run.last is ends (are (turn world.load.shape u) run made all)

  pub runs : (fuel : ℕ) → AreRuns (worked_run world fuel)
  unfolding worked_run
  runs zero u run made all = absurd (cc made)
  runs (suc n) u run made all =
      by_what_is_next (worked_run world n) (runs n) u (due_at world u) refl (ending_of world.load.shape u) refl run made all
