-- How a run ends, and that it goes on where no panic comes.
use Rattle.std.proofs.Common.{◌≡◌, ◌+◌, ◌<◌, ◌≤◌, inl, inr, ℕ, Bool, IsTrue, ◌↔◌, false, true, nat_eq, List, [], ◌++◌, length, Option, Some, None, refl, sym, subst, ap, arith, ◌∙◌}
use Rattle.std.specs.Prelude.{option_and_then}
use Rattle.std.specs.List.{list_any}
use Rattle.std.proofs.lemmas.Bool.{cases_Bool}
use Rattle.std.proofs.lemmas.Grind.{common_steps}
use Rattle.std.proofs.lemmas.List.{append-nil}
use Rattle.ow_base.specs.declared.machine.Shape.{Shape}
use Rattle.ow_base.specs.declared.worlds.Ending.{Ending}
use Rattle.ow_base.specs.declared.worlds.Load.{Load}
use Rattle.ow_base.specs.declared.worlds.PanicLine.{PanicLine}
use Rattle.ow_base.specs.declared.worlds.PanicRecord.{PanicRecord}
use Rattle.ow_base.specs.declared.worlds.Ending.TheVariants.{Done, Budget}
use Rattle.record_layouts.specs.declared.fates.Fate.{Fate}
use Rattle.record_layouts.specs.declared.traps.Trap.{Trap}
use Rattle.record_layouts.specs.Unix.Choice.{has_live_process, no_keys}
use Rattle.record_layouts.specs.Decode.{unix_of}
use Rattle.record_layouts.specs.Unix.Panics.{Ends, GoesOn, RunWith, RunsWith, due_at, due_of, line_for}
use Rattle.record_layouts.specs.Unix.Traps.{next_trap, trap_of_turn}
use Rattle.record_layouts.specs.Unix.Turn.{closed, ending_of, turn}
use Rattle.record_layouts.specs.Unix.State.{Unix, start_of}
use Rattle.record_layouts.proofs.Turning.{next_is}
use Rattle.record_layouts.proofs.Counting.{HasTapesOf, closed_on, traps_in, turned_on}
use Rattle.ow_plant.specs.Points.{coming, is_in}
use Rattle.ow_plant.specs.State.{IsReady, PlantState, risen}
use Rattle.ow_plant.specs.declared.points.PanicPoint.{PanicPoint}
use Rattle.kernel_traps.specs.Plants.{IsSound, unix_at}
use Rattle.kernel_traps.specs.Turning.{AllHaveEnded, IsSameMachine, IsSomeLive, IsTurned}
use Rattle.kernel_traps.specs.Traps.{IsTrapMade}
use Rattle.ow_plant.specs.Images.{AreFronts}
use Rattle.world_file.specs.RunLog.{RunFates}
use Rattle.schedule_runner.specs.Histories.{AreFresh, images_of, lines_of, world_of}
use Rattle.schedule_runner.specs.Progress.{AreInOrder, HasCome, HasEnded, to_come}
use Rattle.schedule_runner.proofs.Fronts.{front_then, grown}
use Rattle.schedule_runner.proofs.Points.{as_many, fewer_come, fresh_in_order, none_listed, passed_in_order}

-- the counts of a plant are those of its state
pub steps_at : (s : PlantState) → (unix_at s).steps ≡ s.steps
unfolding unix_at unix_of
steps_at s = refl

pub traps_at : (s : PlantState) → (unix_at s).traps ≡ s.traps
unfolding unix_at unix_of
traps_at s = refl

pub is_done : (shape : Shape) (s : PlantState) → AllHaveEnded s → ending_of shape (unix_at s) ≡ Some Done
unfolding ending_of
is_done shape s ended = rw ended refl

pub is_budget : (shape : Shape) (s : PlantState) → IsSomeLive s → s.steps ≡ shape.budget → ending_of shape (unix_at s) ≡ Some Budget
unfolding ending_of
is_budget shape s live all =
    let test : nat_eq (unix_at s).steps shape.budget ≡ true = rw (steps_at s) (grind (arith, common_steps, all)) in
    rw (live, test) refl

pub is_none : (shape : Shape) (s : PlantState) → IsSomeLive s → s.steps < shape.budget → ending_of shape (unix_at s) ≡ None
unfolding ending_of
is_none shape s live some =
    let test : nat_eq (unix_at s).steps shape.budget ≡ false = rw (steps_at s) (grind (arith, common_steps, some)) in
    rw (live, test) refl

-- where not all have ended some process is live
pub some_live : (s : PlantState) → (AllHaveEnded s → ⊥) → IsSomeLive s
some_live s some = elim (cases_Bool (has_live_process (unix_at s))) [ inl live ↦ live | inr ended ↦ absurd (some ended) ]

not_told : (answer : Bool) → answer ≡ false → IsTrue answer → ⊥
not_told answer off on = absurd (cc)

pub live_by : (s : PlantState) (answer : Bool) → IsTrue answer ↔ AllHaveEnded s → answer ≡ false → IsSomeLive s
live_by s answer tells off = some_live s (λ ended. not_told answer off (tells.1 ended))

-- no panic is due
none_due : (o : Option Trap) (line : Option PanicLine) → line ≡ None → option_and_then (λ t. due_of t line) o ≡ None
none_due (Some t) line none = ap (due_of t) none
none_due None line none = refl

no_trap : (o : Option Trap) → traps_in o ≡ 0 → o ≡ None
no_trap (Some t) none = absurd (omega (arith, none))
no_trap None none = refl

no_traps : (load : Load) → (start_of load).traps ≡ 0
unfolding start_of
no_traps load = refl

-- at its start a run has come there
pub comes_first : (load : Load) (first s : PlantState) (log : RunFates) → IsReady load.shape first → first.shape.budget ≤ 2000000 → AreFresh first.points
    → log.entries ≡ [] → length first.points ≤ log.room
    → IsSound s → IsSameMachine first s → unix_at s ≡ start_of load → HasCome load first.points s log
comes_first load first s log ready most fresh empty room sound same started =
    let none : s.traps ≡ 0 = sym (traps_at s) ∙ ap (λ (u : Unix). u.traps) started ∙ no_traps load in
    let points : coming s.points ≤ length first.points = subst (λ (ps : List PanicPoint). coming ps ≤ length first.points) (sym same.points) (as_many first.points) in
    let begun : s.history ≡ [] = same.history ∙ ready.no_history in
    record {
      sound = sound;
      shape = same.shape ∙ ready.of_shape;
      budget = subst (λ (m : Shape). m.budget ≤ 2000000) ready.of_shape most;
      runs = same.reviving ∙ ready.not_reviving;
      order = subst (λ (n : ℕ). AreInOrder 1 n s.points) (sym none) (subst (AreInOrder 1 0) (sym same.points) (fresh_in_order first.points fresh));
      lines = ap lines_of same.points;
      few = omega (arith, none, points, fresh.few);
      room = omega (arith, ap (λ (told : List (List (ℕ × Fate))). length told) empty, points, room);
      so_far = λ end shape fronts history told ending w later.
          subst (λ (before : List PanicRecord). RunWith (world_of load first.points) (images_of end) (before ++ history) (log.entries ++ told) ending w) (sym begun)
          (subst (λ (before : List (List (ℕ × Fate))). RunWith (world_of load first.points) (images_of end) history (before ++ told) ending w) (sym empty)
          (subst (λ (u : Unix). RunsWith (world_of load first.points) (images_of end) u history told ending w) started later));
    }

module _ (load : Load) (points : List PanicPoint) (s : PlantState) (log : RunFates) (come : HasCome load points s log) where
  pub few_traps : s.traps < 4294967294
  few_traps =
      let budget : s.steps ≤ load.shape.budget = subst (λ (m : Shape). s.steps ≤ m.budget) come.shape come.sound.budget in
      omega (arith, come.few, budget, come.budget)

  pub next_number : risen s.traps ≡ s.traps + 1
  next_number = omega (arith, few_traps)

  -- there is room in the log for the panic of the next trap
  pub some_room : list_any (is_in (risen s.traps)) s.points ≡ true → length log.entries < log.room
  some_room next = omega (arith, come.room, fewer_come (risen s.traps) s.points next)

  no_line : list_any (is_in (risen s.traps)) s.points ≡ false → line_for (lines_of points) ((unix_at s).traps + 1) ≡ None
  no_line none =
      let passed : list_any (is_in (s.traps + 1)) s.points ≡ false = subst (λ (n : ℕ). list_any (is_in n) s.points ≡ false) next_number none in
      sym (ap (λ (lines : List PanicLine). line_for lines ((unix_at s).traps + 1)) come.lines)
      ∙ ap (λ (n : ℕ). line_for (lines_of s.points) (n + 1)) (traps_at s) ∙ none_listed 1 s.traps (s.traps + 1) s.points come.order (omega arith) passed

  pub order_passed : list_any (is_in (risen s.traps)) s.points ≡ false → AreInOrder 1 (s.traps + 1) s.points
  order_passed none =
      passed_in_order 1 s.traps s.points come.order (subst (λ (n : ℕ). list_any (is_in n) s.points ≡ false) next_number none)

  pub none_passed : list_any (is_in (risen s.traps)) s.points ≡ false → due_at (world_of load points) (unix_at s) ≡ None
  unfolding due_at
  none_passed none = none_due (next_trap no_keys load.shape (unix_at s)) (line_for (lines_of points) ((unix_at s).traps + 1)) (no_line none)

  -- a turn that was no trap
  pub none_in_step : (t : PlantState) → ending_of load.shape (unix_at s) ≡ None → unix_at t ≡ turn load.shape (unix_at s) → t.traps ≡ s.traps
      → due_at (world_of load points) (unix_at s) ≡ None
  unfolding due_at
  none_in_step t goes made same =
      let u = unix_at s in
      let counts = (turned_on load.shape u).traps in
      let stays : (turn load.shape u).traps ≡ u.traps = ap (λ (w : Unix). w.traps) (sym made) ∙ traps_at t ∙ same ∙ sym (traps_at s) in
      let none : trap_of_turn no_keys load.shape u ≡ None = no_trap (trap_of_turn no_keys load.shape u) (omega (arith, counts, stays)) in
      ap (λ (o : Option Trap). option_and_then (λ t. due_of t (line_for (lines_of points) (u.traps + 1))) o) (next_is load.shape u goes ∙ none)

  -- where a turn is made steps were left
  some_left : (t : PlantState) → IsTurned s t → s.steps < load.shape.budget
  some_left t turned =
      let most : t.steps ≤ load.shape.budget = subst (λ (m : Shape). t.steps ≤ m.budget) (turned.same.shape ∙ come.shape) turned.sound.budget in
      omega (arith, most, turned.steps)

  pub made_turn : (t : PlantState) → IsTurned s t → unix_at t ≡ turn load.shape (unix_at s)
  made_turn t turned = subst (λ (m : Shape). unix_at t ≡ turn m (unix_at s)) come.shape turned.turn

  pub goes : (t : PlantState) → IsSomeLive s → IsTurned s t → ending_of load.shape (unix_at s) ≡ None
  goes t live turned = is_none load.shape s live (some_left t turned)

  -- a turn more
  pub comes_on : (t : PlantState) → IsSomeLive s → IsTurned s t → t.traps ≤ s.traps + 1 → AreInOrder 1 t.traps s.points
      → due_at (world_of load points) (unix_at s) ≡ None → HasCome load points t log
  comes_on t live turned no_more order none =
      let same = turned.same in
      let as_many : coming t.points ≡ coming s.points = ap coming same.points in
      record {
        sound = turned.sound;
        shape = same.shape ∙ come.shape;
        budget = come.budget;
        runs = same.reviving ∙ come.runs;
        order = subst (AreInOrder 1 t.traps) (sym same.points) order;
        lines = ap lines_of same.points ∙ come.lines;
        few = omega (arith, come.few, no_more, turned.steps, as_many);
        room = omega (arith, come.room, as_many);
        so_far = λ end shape fronts history told ending w later.
            subst (λ (before : List PanicRecord). RunWith (world_of load points) (images_of end) (before ++ history) (log.entries ++ told) ending w) (sym same.history)
            (come.so_far end shape
            (front_then s t end (grown s t come.sound turned.sound (subst (HasTapesOf (unix_at s)) (sym (made_turn t turned)) (turned_on load.shape (unix_at s)).tapes)) fronts)
            history told ending w
            (GoesOn (unix_at s) history told ending w none (goes t live turned)
            (subst (λ (u : Unix). RunsWith (world_of load points) (images_of end) u history told ending w) (made_turn t turned) later)));
      }

  pub turn_nearer : (t : PlantState) → IsTurned s t → to_come t < to_come s
  turn_nearer t turned =
      let budget : t.shape.budget ≡ s.shape.budget = ap (λ (m : Shape). m.budget) turned.same.shape in
      omega (arith, budget, turned.steps, turned.sound.budget, ap coming turned.same.points)

  -- the closing trap
  pub comes_to_end : (t : PlantState) (ending : Ending) → ending_of load.shape (unix_at s) ≡ Some ending → list_any (is_in (risen s.traps)) s.points ≡ false
      → IsTrapMade s t (closed (unix_at s)) 0 → HasEnded load points ending t log
  comes_to_end t ending ends none made =
      let same = made.same in
      let fronts : AreFronts s t = grown s t come.sound made.sound (subst (HasTapesOf (unix_at s)) (sym made.unix) (closed_on (unix_at s))) in
      let end : RunsWith (world_of load points) (images_of t) (unix_at s) [] [] ending (unix_at t) =
      subst (λ (u : Unix). RunsWith (world_of load points) (images_of t) (unix_at s) [] [] ending u) (sym made.unix) (Ends (unix_at s) ending (none_passed none) ends) in
      let whole : RunWith (world_of load points) (images_of t) (s.history ++ []) (log.entries ++ []) ending (unix_at t) =
      come.so_far t (same.shape ∙ come.shape) fronts [] [] ending (unix_at t) end in
      record {
        run = subst (λ (history : List PanicRecord). RunWith (world_of load points) (images_of t) history log.entries ending (unix_at t)) (append-nil s.history ∙ sym same.history)
            (subst (λ (told : List (List (ℕ × Fate))). RunWith (world_of load points) (images_of t) (s.history ++ []) told ending (unix_at t)) (append-nil log.entries) whole);
        sound = made.sound;
        shape = same.shape ∙ come.shape;
        lines = ap lines_of same.points ∙ come.lines;
      }
