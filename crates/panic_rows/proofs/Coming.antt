-- Which panics come in a run: those that are listed for a trap which it reaches.
use Rattle.std.proofs.Common.{◌≡◌, ◌∙◌, ◌+◌, ◌≤◌, ◌<◌, ◌==◌, ◌⊎◌, ℕ, nat_lt, true, List, ◌∷◌, Option, Some, None, inl, inr, refl, sym, ap, subst, arith}
use Rattle.std.specs.Prelude.{is_some, option_and_then}
use Rattle.std.proofs.lemmas.Bool.{cases_Bool}
use Rattle.std.proofs.lemmas.Bool.Decides.{nat_tests}
use Rattle.ow_base.specs.UserStep.{Stepped, Next, Call, Faulted}
use Rattle.ow_base.specs.Pages.{Pages}
use Rattle.ow_base.specs.declared.machine.Shape.{Shape}
use Rattle.ow_base.specs.declared.worlds.World.{World}
use Rattle.ow_base.specs.declared.worlds.Ending.{Ending}
use Rattle.ow_base.specs.declared.worlds.PanicLine.{PanicLine}
use Rattle.ow_base.specs.declared.worlds.PanicRecord.{PanicRecord}
use Rattle.record_layouts.specs.Unix.State.{Unix, Process, Position, AtKernel, AtUser, AtPanic}
use Rattle.record_layouts.specs.Unix.Choice.{no_keys, settled}
use Rattle.record_layouts.specs.Unix.Turn.{closed, ending_of, step_of, stepped, turn}
use Rattle.record_layouts.specs.Unix.Traps.{closing_of, instructed, instructed_by, next_trap, trap_at, trap_of_step, trap_of_turn, trap_of_user, turned_by}
use Rattle.record_layouts.specs.Unix.Abort.{abort}
use Rattle.record_layouts.specs.Unix.Panics.{Due, Ends, GoesOn, Images, IsAtPoint, IsPanicEntry, Panics, RunsWith, due_at, due_of, line_for, revived_from, state_left}
use Rattle.record_layouts.specs.Unix.PanicReport.{entry_for}
use Rattle.record_layouts.specs.declared.fates.Fate.{Fate}
use Rattle.record_layouts.specs.declared.traps.Trap.{Trap}
use Rattle.record_layouts.specs.declared.traps.Trap.TheVariants as trap
use Rattle.record_layouts.proofs.Turning.{closing_is, next_is, turn_is}
use Rattle.record_layouts.proofs.Counting.{broken_counts, settled_alike, turn_counts}

-- a turn that is an instruction counts no trap
by_step : (u : Unix) (pid count : ℕ) (p : Process) (s : Stepped Pages) → trap_of_step pid s ≡ None → (stepped u pid count p s).traps ≡ u.traps
unfolding stepped
by_step u pid count p (Next regs pc pages) none = refl
by_step u pid count p Call none = absurd (cc none)
by_step u pid count p (Faulted fault) none = absurd (cc none)

by_user : (quantum : ℕ) (u : Unix) (pid count : ℕ) (o : Option Process) → trap_of_user quantum pid count o ≡ None → (instructed_by u pid count o).traps ≡ u.traps
by_user quantum u pid count (Some p) none = elim (cases_Bool (nat_lt count quantum)) [
  | inl within ↦ by_step u pid count p (step_of p) (rw within at none)
  | inr over ↦ let some : Some (trap.Slice pid) ≡ None = rw over at none in absurd (cc some)
]
by_user quantum u pid count None none = refl

by_position : (quantum : ℕ) (u : Unix) (position : Position) → trap_at no_keys quantum u position ≡ None → (instructed u position).traps ≡ u.traps
unfolding trap_at instructed
by_position quantum u AtKernel none = refl
by_position quantum u (AtUser pid count) none = by_user quantum u pid count (u.processes pid) none
by_position quantum u (AtPanic caller) none = refl

instruction_counts : (shape : Shape) (u : Unix) → trap_of_turn no_keys shape u ≡ None → (turn shape u).traps ≡ u.traps
unfolding trap_of_turn
instruction_counts shape u none =
    let s = settled no_keys u in
    let made : turn shape u ≡ instructed s s.position = turn_is shape u ∙ ap (turned_by s) none in
    ap (λ (w : Unix). w.traps) made ∙ (by_position shape.quantum s s.position none ∙ (settled_alike no_keys u).1)

trap_counts : (shape : Shape) (u : Unix) (t : Trap) → trap_of_turn no_keys shape u ≡ Some t → (turn shape u).traps ≡ u.traps + 1
trap_counts shape u t is =
    let s = settled no_keys u in
    ap (λ (w : Unix). w.traps) (turn_is shape u ∙ ap (turned_by s) is)
    ∙ (turn_counts no_keys shape u t is).traps ∙ ap (λ n. n + 1) (settled_alike no_keys u).1

-- the panic that is due is the one that is listed for the next trap
line_of_none : (t : Trap) (o : Option PanicLine) → due_of t o ≡ None → o ≡ None
line_of_none t (Some line) none = absurd (cc none)
line_of_none t None none = refl

line_of_some : (due : Due) (o : Option Trap) (l : Option PanicLine) → option_and_then (λ t. due_of t l) o ≡ Some due → l ≡ Some due.line
line_of_some due (Some t) (Some line) is = let same : record { trap = t; line = line } ≡ due = cc is in ap (λ (d : Due). Some d.line) same
line_of_some due (Some t) None is = absurd (cc is)
line_of_some due None l is = absurd (cc is)

module _ (world : World) where
  none_listed : (u : Unix) (t : Trap) → due_at world u ≡ None → next_trap no_keys world.load.shape u ≡ Some t → line_for world.panics (u.traps + 1) ≡ None
  unfolding due_at
  none_listed u t none is =
      line_of_none t (line_for world.panics (u.traps + 1)) (subst (λ (o : Option Trap). option_and_then (λ t. due_of t (line_for world.panics (u.traps + 1))) o ≡ None) is none)

  listed : (u : Unix) (due : Due) → due_at world u ≡ Some due → line_for world.panics (u.traps + 1) ≡ Some due.line
  unfolding due_at
  listed u due is = line_of_some due (next_trap no_keys world.load.shape u) (line_for world.panics (u.traps + 1)) is

  -- a turn before which no panic is due counts no trap for which one is listed
  passed : (u : Unix) (n : ℕ) (line : PanicLine) (o : Option Trap) → due_at world u ≡ None → ending_of world.load.shape u ≡ None → trap_of_turn no_keys world.load.shape u ≡ o
      → line_for world.panics n ≡ Some line → u.traps < n → (turn world.load.shape u).traps < n
  passed u n line None none on is at below = rw (instruction_counts world.load.shape u is) below
  passed u n line (Some t) none on is at below =
      let next = next_is world.load.shape u on ∙ is in
      let not_listed = none_listed u t none next in
      elim (cases_Bool (n == u.traps + 1)) [
        | inl same ↦
            let number : n ≡ u.traps + 1 = grind (arith, nat_tests) in
            let some : line_for world.panics (u.traps + 1) ≡ Some line = subst (λ k. line_for world.panics k ≡ Some line) number at in absurd (cc (some, not_listed))
        | inr other ↦ rw (trap_counts world.load.shape u t is) (grind (arith, nat_tests))
      ]

  -- an entry is found behind another one
  behind : (r : PanicRecord) (h : List PanicRecord) (n : ℕ) → is_some (entry_for h n) ≡ true → is_some (entry_for (r ∷ h) n) ≡ true
  unfolding entry_for
  behind r h n there = elim (cases_Bool (r.trap == n)) [
    | inl same ↦ rw same refl
    | inr other ↦ rw other there
  ]

  first_is : (r : PanicRecord) (h : List PanicRecord) (n : ℕ) → r.trap ≡ n → is_some (entry_for (r ∷ h) n) ≡ true
  unfolding entry_for
  first_is r h n is = let same : (r.trap == n) ≡ true = grind (arith, nat_tests) in rw same refl

  module _ (images : Images) where
    counted : (u : Unix) (due : Due) (r : PanicRecord) → IsPanicEntry u due r (state_left images u due r) → (revived_from images u due r).traps ≡ u.traps + 1
    unfolding abort
    counted u due r entry = (broken_counts no_keys u due.trap (state_left images u due r) entry.broken).1

    pub comes : (u : Unix) (h : List PanicRecord) (told : List (List (ℕ × Fate))) (e : Ending) (w : Unix) (n : ℕ) (line : PanicLine)
        → RunsWith world images u h told e w → line_for world.panics n ≡ Some line → u.traps < n → n ≤ w.traps → is_some (entry_for h n) ≡ true
    unfolding closed
    comes u h told e w n line (Ends u1 e1 none ends) at below within =
        let number : n ≡ u1.traps + 1 = omega arith in
        let some : line_for world.panics (u1.traps + 1) ≡ Some line = subst (λ k. line_for world.panics k ≡ Some line) number at in
        absurd (cc (some, none_listed u1 (closing_of u1) none (closing_is world.load.shape u1 e1 ends)))
    comes u h told e w n line (GoesOn u1 h1 t1 e1 w1 none on run) at below within =
        comes (turn world.load.shape u1) h1 t1 e1 w1 n line run at (passed u1 n line (trap_of_turn no_keys world.load.shape u1) none on refl at below) within
    comes u h told e w n line (Panics u1 due r h1 t1 e1 w1 is entry run) at below within = elim (cases_Bool (n == u1.traps + 1)) [
      | inl same ↦ let number : r.trap ≡ n = entry.trap ∙ grind (arith, nat_tests) in first_is r h1 n number
      | inr other ↦
          let later : (revived_from images u1 due r).traps < n = rw (counted u1 due r entry) (grind (arith, nat_tests)) in
          behind r h1 n (comes (revived_from images u1 due r) h1 t1 e1 w1 n line run at later within)
    ]

    -- and each entry is of a panic that is listed
    abbrev IsListed : (n : ℕ) → PanicRecord → Type 0
    IsListed n r = (line : PanicLine) × (line_for world.panics n ≡ Some line) × (r.listed ≡ line.store) × IsAtPoint line.store r

    of_entry : (u : Unix) (due : Due) (r : PanicRecord) (n : ℕ) → due_at world u ≡ Some due → IsPanicEntry u due r (state_left images u due r) → r.trap ≡ n → IsListed n r
    of_entry u due r n is entry number =
        let own : IsListed (u.traps + 1) r = (due.line, listed u due is, entry.listed, entry.point) in
        subst (λ k. IsListed k r) (sym entry.trap ∙ number) own

    first_or_later : (r q : PanicRecord) (h : List PanicRecord) (n : ℕ) → entry_for (r ∷ h) n ≡ Some q → ((r.trap ≡ n) × (r ≡ q)) ⊎ (entry_for h n ≡ Some q)
    unfolding entry_for
    first_or_later r q h n found = elim (cases_Bool (r.trap == n)) [
      | inl same ↦ let some : Some r ≡ Some q = rw same at found in inl (grind (arith, nat_tests), cc some)
      | inr other ↦ inr (rw other at found)
    ]

    pub others : (u : Unix) (h : List PanicRecord) (told : List (List (ℕ × Fate))) (e : Ending) (w : Unix) (n : ℕ) (q : PanicRecord)
        → RunsWith world images u h told e w → entry_for h n ≡ Some q → IsListed n q
    unfolding entry_for
    others u h told e w n q (Ends u1 e1 none ends) found = absurd (cc found)
    others u h told e w n q (GoesOn u1 h1 t1 e1 w1 none on run) found = others (turn world.load.shape u1) h1 t1 e1 w1 n q run found
    others u h told e w n q (Panics u1 due r h1 t1 e1 w1 is entry run) found = elim (first_or_later r q h1 n found) [
      | inl first ↦ subst (λ x. IsListed n x) first.1 (of_entry u1 due r n is entry first.0)
      | inr later ↦ others (revived_from images u1 due r) h1 t1 e1 w1 n q run later
    ]
