-- A run goes on behind a panic that is served.
use Rattle.std.proofs.Common.{◌≡◌, ◌+◌, ◌<◌, ◌≤◌, inl, inr, ℕ, Bool, false, true, nat_le, List, [], ◌∷◌, ◌++◌, length, map, Option, Some, None, refl, sym, subst, ap, arith, ◌∙◌, length-append}
use Rattle.std.specs.Prelude.{option_and_then}
use Rattle.std.specs.List.{list_any}
use Rattle.std.proofs.lemmas.Bool.Decides.{nat_tests}
use Rattle.std.proofs.lemmas.List.{append_assoc}
use Rattle.ow_base.specs.declared.machine.Shape.{Shape}
use Rattle.ow_base.specs.declared.worlds.Ending.{Ending}
use Rattle.ow_base.specs.declared.worlds.Load.{Load}
use Rattle.ow_base.specs.declared.worlds.PanicLine.{PanicLine}
use Rattle.ow_base.specs.declared.worlds.PanicRecord.{PanicRecord}
use Rattle.dead_reader.specs.Left.{told_by}
use Rattle.record_layouts.specs.declared.fates.Fate.{Fate}
use Rattle.record_layouts.specs.declared.traps.Trap.{Trap}
use Rattle.record_layouts.specs.Left.{HandedOver}
use Rattle.record_layouts.specs.Unix.Abort.{abort, fates}
use Rattle.record_layouts.specs.Unix.Broken.{begun_from}
use Rattle.record_layouts.specs.Unix.Choice.{no_keys}
use Rattle.record_layouts.specs.Unix.Panics.{Due, IsAtPoint, IsPanicEntry, Panics, RunWith, RunsWith, due_at, due_of, line_for, revived_from, state_left}
use Rattle.record_layouts.specs.Unix.State.{Unix}
use Rattle.record_layouts.specs.Unix.Traps.{closing_of, next_trap, or_zero, pid_of, steps_in, trap_of_turn}
use Rattle.record_layouts.specs.Unix.Turn.{ending_of}
use Rattle.record_layouts.proofs.Turning.{closing_is, next_is}
use Rattle.record_layouts.specs.Unix.Wounds.{no_wounds}
use Rattle.ow_plant.specs.Points.{coming, entered_by, is_in, listed_for, is_ahead, is_at, is_missed}
use Rattle.ow_plant.specs.Images.{tapes_of, AreFronts}
use Rattle.ow_plant.specs.State.{EntersPanic, PlantState, handed_over, is_leave}
use Rattle.ow_plant.specs.declared.points.PanicPoint.{PanicPoint}
use Rattle.ow_plant.specs.declared.refusal.Refusal.{Refusal}
use Rattle.ow_plant.specs.declared.refusal.Refusal.TheVariants.{Store, Leave}
use Rattle.kernel_traps.specs.Plants.{unix_at}
use Rattle.kernel_traps.specs.Traps.{IsPanicNext}
use Rattle.kernel_traps.specs.Broken.{IsLeftFrom, IsLeftOfTrap, IsLeftOfTurn, unix_left_at}
use Rattle.world_file.specs.RunLog.{RunFates}
use Rattle.schedule_runner.specs.Histories.{images_of, lines_of, world_of}
use Rattle.schedule_runner.specs.Progress.{AreInOrder, HasCome, to_come}
use Rattle.schedule_runner.specs.Revivals.{fates_aborted, unix_broken}
use Rattle.schedule_runner.specs.Served.{IsServed}
use Rattle.schedule_runner.proofs.EnteredPanics.{entered_left}
use Rattle.schedule_runner.proofs.Fronts.{front_then, same_front}
use Rattle.schedule_runner.proofs.PanicEntries.{state_same, wounds_same}
use Rattle.schedule_runner.proofs.Points.{entered_in_order, entered_lines, fewer_come, line_at, none_missed, one_listed, store_ahead, store_is}
use Rattle.schedule_runner.proofs.Running.{few_traps, is_none, next_number, steps_at, traps_at}

leave_of : (o : Option Refusal) → is_leave o ≡ true → o ≡ Some Leave
leave_of (Some Leave) is = refl
leave_of (Some Store) is = absurd (cc is)
leave_of None is = absurd (cc is)

-- A panic of a trap that was next, for which one is listed: what is known where a store of it, or its end, was refused,
-- exactly at its point, and once the panic is served.
pub record HasPanicked (load : Load) (s : PlantState) (t : Trap) (left new : PlantState) (log after : RunFates) : Type 0 where
  pub next : next_trap no_keys load.shape (unix_at s) ≡ Some t
  pub one : list_any (is_in (s.traps + 1)) s.points ≡ true
  pub is : IsLeftFrom (begun_from no_keys (unix_at s) t) s t left
  pub at_store : left.refusal ≡ Some Store → list_any (is_at left.traps left.stores) left.points ≡ true
  pub at_leave : left.refusal ≡ Some Leave → list_any (is_ahead left.traps left.stores) left.points ≡ true
  pub served : IsServed left new log after

module _ (load : Load) (points : List PanicPoint) (s : PlantState) (log : RunFates) (come : HasCome load points s log)
    (t : Trap) (left new : PlantState) (after : RunFates) (panicked : HasPanicked load s t left new log after) where
  abbrev is : IsLeftFrom (begun_from no_keys (unix_at s) t) s t left
  is = panicked.is

  abbrev entered : PlantState
  entered = panicked.served.entered

  abbrev enters : EntersPanic left entered
  enters = panicked.served.enters

  abbrev r : PanicRecord
  r = panicked.served.enters.entry

  abbrev h : HandedOver
  h = told_by (handed_over left)

  abbrev line : PanicLine
  line = line_at (s.traps + 1) (listed_for (s.traps + 1) s.points)

  abbrev due : Due
  due = record { trap = t; line = line }

  listed : line_for (lines_of points) ((unix_at s).traps + 1) ≡ Some line
  listed =
      sym (ap (λ (lines : List PanicLine). line_for lines ((unix_at s).traps + 1)) come.lines)
      ∙ ap (λ (n : ℕ). line_for (lines_of s.points) (n + 1)) (traps_at s) ∙ one_listed (s.traps + 1) s.points panicked.one

  due_is : due_at (world_of load points) (unix_at s) ≡ Some due
  unfolding due_at
  due_is =
      ap (λ (o : Option Trap). option_and_then (λ t. due_of t (line_for (lines_of points) ((unix_at s).traps + 1))) o) panicked.next
      ∙ ap (due_of t) listed

  -- where it came
  here : (test : ℕ → ℕ → PanicPoint → Bool) → list_any (test left.traps left.stores) left.points ≡ true → list_any (test (s.traps + 1) left.stores) s.points ≡ true
  here test some = (λ k. list_any (test (sym is.traps k) left.stores) (sym is.same.points k)) ∙ some

  at_point : (o : Option Refusal) → left.refusal ≡ o → IsAtPoint line.store r
  at_point (Some Store) was = inl (
    enters.recorded.at_leave ∙ ap is_leave was,
    enters.recorded.store ∙ store_is 1 s.traps (s.traps + 1) left.stores s.points come.order (here is_at (panicked.at_store was)),
  )
  at_point (Some Leave) was = inr (
    enters.recorded.at_leave ∙ ap is_leave was,
    subst (λ (n : ℕ). 1 ≤ n) (sym enters.recorded.store) (is.over was).0,
    subst (λ (n : ℕ). n ≤ line.store) (sym enters.recorded.store) (store_ahead 1 s.traps (s.traps + 1) left.stores s.points come.order (here is_ahead (panicked.at_leave was))),
  )
  at_point None was = let none : false ≡ true = rw was at is.refused in absurd (cc none)

  told_pid : r.pid ≡ or_zero (pid_of t)
  told_pid =
      let few : nat_le left.trap_pid 256 ≡ true = grind (arith, nat_tests, is.few_pids) in
      enters.recorded.pid ∙ rw few is.pid

  told_listed : r.listed ≡ line.store
  told_listed = enters.recorded.listed ∙ (λ k. listed_for (is.traps k) (is.same.points k))

  told_trap : r.trap ≡ (unix_at s).traps + 1
  told_trap = enters.recorded.trap ∙ is.traps ∙ ap (λ (n : ℕ). n + 1) (sym (traps_at s))

  entry : IsPanicEntry (unix_at s) due r (unix_left_at left)
  entry = record {
    trap = told_trap;
    pid = told_pid;
    listed = told_listed;
    point = at_point left.refusal refl;
    broken = is.broken;
    unstored = λ none. is.unstored (sym enters.recorded.store ∙ none);
    over = λ leave. (is.over (leave_of left.refusal (sym enters.recorded.at_leave ∙ leave))).1;
    lines = enters.recorded.no_lines;
    undamaged = λ none. enters.recorded.no_damage;
    unbroken = enters.recorded.no_broken;
  }

  points_are : new.points ≡ map (entered_by (s.traps + 1)) s.points
  points_are =
      panicked.served.points ∙ ap (λ (p : PlantState). p.points) enters.after
      ∙ (λ k. map (entered_by (is.traps k)) (is.same.points k))

  shape_is : new.shape ≡ s.shape
  shape_is = panicked.served.shape ∙ ap (λ (p : PlantState). p.shape) enters.after ∙ is.same.shape

  history_is : new.history ≡ s.history ++ r ∷ []
  history_is =
      panicked.served.history ∙ ap (λ (p : PlantState). p.history) enters.after
      ∙ ap (λ (before : List PanicRecord). before ++ r ∷ []) is.same.history

  steps_are : new.steps ≡ s.steps + steps_in t
  steps_are = panicked.served.steps ∙ ap (λ (p : PlantState). p.steps) enters.after ∙ is.steps

  traps_are : new.traps ≡ s.traps + 1
  traps_are = panicked.served.traps ∙ ap (λ (p : PlantState). p.traps) enters.after ∙ is.traps

  fewer : coming new.points + 1 ≤ coming s.points
  fewer = subst (λ (ps : List PanicPoint). coming ps + 1 ≤ coming s.points) (sym points_are) (fewer_come (s.traps + 1) s.points panicked.one)

  entries_are : after.entries ≡ log.entries ++ fates_aborted entered h ∷ []
  entries_are = ap (λ (told : RunFates). told.entries) panicked.served.told

  one_more : length after.entries ≡ length log.entries + 1
  one_more = ap (λ (told : List (List (ℕ × Fate))). length told) entries_are ∙ length-append log.entries (fates_aborted entered h ∷ [])

  same_room : after.room ≡ log.room
  same_room = ap (λ (told : RunFates). told.room) panicked.served.told

  -- what the entry stands for by the tapes of a later plant
  module _ (end : PlantState) (shape : end.shape ≡ load.shape) (fronts : AreFronts new end) where
    of_entered : end.shape ≡ entered.shape
    of_entered = shape ∙ sym come.shape ∙ sym shape_is ∙ panicked.served.shape

    from_entered : AreFronts entered end
    from_entered = front_then entered new end panicked.served.tapes fronts

    from_before : AreFronts s end
    from_before =
        front_then s left end is.tapes
        (front_then left entered end (same_front left entered (ap (λ (p : PlantState). tapes_of p) enters.after)) from_entered)

    state_is : state_left (images_of end) (unix_at s) due r ≡ unix_left_at left
    state_is =
        (λ k. (images_of end).state r (counted k) (numbered k)) ∙ state_same left entered enters is.armed end of_entered from_entered
      where
        counted : (unix_at s).steps + steps_in t ≡ left.steps
        counted = ap (λ (n : ℕ). n + steps_in t) (steps_at s) ∙ sym is.steps

        numbered : (unix_at s).traps + 1 ≡ left.traps
        numbered = ap (λ (n : ℕ). n + 1) (traps_at s) ∙ sym is.traps

    broken_is : unix_broken entered h ≡ unix_left_at left
    broken_is = entered_left left entered enters is.armed

    revived_is : revived_from (images_of end) (unix_at s) due r ≡ unix_at new
    revived_is =
        (λ k. abort (state_is k) (wounds_same left entered enters is.armed end of_entered from_entered is.sound k))
        ∙ sym (panicked.served.unix ∙ ap (λ (v : Unix). abort v (no_wounds v)) broken_is)

    fates_are : fates (state_left (images_of end) (unix_at s) due r) ((images_of end).wounds r) ≡ fates_aborted entered h
    fates_are =
        (λ k. fates (state_is k) (wounds_same left entered enters is.armed end of_entered from_entered is.sound k))
        ∙ sym (ap (λ (v : Unix). fates v (no_wounds v)) broken_is)

    module _ (history : List PanicRecord) (told : List (List (ℕ × Fate))) (ending : Ending) (w : Unix)
        (later : RunsWith (world_of load points) (images_of end) (unix_at new) history told ending w) where
      panics : RunsWith (world_of load points) (images_of end) (unix_at s) (r ∷ history) (fates_aborted entered h ∷ told) ending w
      panics =
          subst (λ (one : List (ℕ × Fate)). RunsWith (world_of load points) (images_of end) (unix_at s) (r ∷ history) (one ∷ told) ending w) fates_are
          (Panics (unix_at s) due r history told ending w due_is (subst (IsPanicEntry (unix_at s) due r) (sym state_is) entry)
          (subst (λ (u : Unix). RunsWith (world_of load points) (images_of end) u history told ending w) (sym revived_is) later))

      whole : RunWith (world_of load points) (images_of end) (s.history ++ r ∷ history) (log.entries ++ fates_aborted entered h ∷ told) ending w
      whole = come.so_far end shape from_before (r ∷ history) (fates_aborted entered h ∷ told) ending w panics

      from_start : RunWith (world_of load points) (images_of end) (new.history ++ history) (after.entries ++ told) ending w
      from_start =
          subst (λ (all : List PanicRecord). RunWith (world_of load points) (images_of end) all (after.entries ++ told) ending w)
          (sym (ap (λ (before : List PanicRecord). before ++ history) history_is ∙ append_assoc s.history (r ∷ []) history))
          (subst (λ (all : List (List (ℕ × Fate))). RunWith (world_of load points) (images_of end) (s.history ++ r ∷ history) all ending w)
          (sym (ap (λ (before : List (List (ℕ × Fate))). before ++ told) entries_are ∙ append_assoc log.entries (fates_aborted entered h ∷ []) told))
          whole)

  pub comes_through : HasCome load points new after
  comes_through = record {
    sound = panicked.served.sound;
    shape = shape_is ∙ come.shape;
    budget = come.budget;
    runs = panicked.served.runs;
    order = subst (AreInOrder 1 new.traps) (sym points_are) (subst (λ (n : ℕ). AreInOrder 1 n (map (entered_by (s.traps + 1)) s.points)) (sym traps_are) (entered_in_order 1 s.traps (s.traps + 1) s.points (omega arith) come.order));
    lines = ap lines_of points_are ∙ entered_lines (s.traps + 1) s.points ∙ come.lines;
    few = omega (arith, come.few, fewer, traps_are, steps_are);
    room = omega (arith, come.room, fewer, one_more, same_room);
    so_far = from_start;
  }

  pub panic_nearer : to_come new < to_come s
  panic_nearer = omega (arith, fewer, steps_are, ap (λ (m : Shape). m.budget) shape_is)

-- the panic of a turn, and that of the closing trap
module _ (load : Load) (points : List PanicPoint) (s : PlantState) (log : RunFates) (come : HasCome load points s log) (left new : PlantState) (after : RunFates)
    (one : IsPanicNext s)
    (at_store : left.reviving ≡ false → left.traps < 4294967295 → list_any (is_missed left.traps) left.points ≡ false → left.refusal ≡ Some Store → list_any (is_at left.traps left.stores) left.points ≡ true)
    (at_leave : left.reviving ≡ false → left.traps < 4294967295 → list_any (is_missed left.traps) left.points ≡ false → left.refusal ≡ Some Leave → list_any (is_ahead left.traps left.stores) left.points ≡ true)
    (served : IsServed left new log after) where
  next_one : list_any (is_in (s.traps + 1)) s.points ≡ true
  next_one = subst (λ (n : ℕ). list_any (is_in n) s.points ≡ true) (next_number load points s log come) one

  missed : (t : Trap) → IsLeftOfTrap s t left → list_any (is_missed left.traps) left.points ≡ false
  missed t is = (λ k. list_any (is_missed (is.traps k)) (is.same.points k)) ∙ none_missed 1 s.traps s.points come.order

  has_number : (t : Trap) → IsLeftOfTrap s t left → left.traps < 4294967295
  has_number t is = omega (arith, is.traps, few_traps load points s log come)

  panicked_in : (t : Trap) → next_trap no_keys load.shape (unix_at s) ≡ Some t → IsLeftOfTrap s t left → HasPanicked load s t left new log after
  panicked_in t next is = record {
    next = next;
    one = next_one;
    is = is;
    at_store = at_store (is.same.reviving ∙ come.runs) (has_number t is) (missed t is);
    at_leave = at_leave (is.same.reviving ∙ come.runs) (has_number t is) (missed t is);
    served = served;
  }

  pub turn_panicked : s.steps < load.shape.budget → (is : IsLeftOfTurn s left) → HasPanicked load s is.1 left new log after
  turn_panicked some is = panicked_in is.1
      (next_is load.shape (unix_at s) (is_none load.shape s is.0 some)
      ∙ subst (λ (m : Shape). trap_of_turn no_keys m (unix_at s) ≡ Some is.1) come.shape is.2) is.3

  pub closing_panicked : (ending : Ending) → ending_of s.shape (unix_at s) ≡ Some ending → IsLeftOfTrap s (closing_of (unix_at s)) left
      → HasPanicked load s (closing_of (unix_at s)) left new log after
  closing_panicked ending ends is = panicked_in (closing_of (unix_at s))
      (closing_is load.shape (unix_at s) ending (subst (λ (m : Shape). ending_of m (unix_at s) ≡ Some ending) come.shape ends)) is
