-- Panic, and Run of a world with panics.
use Rattle.std.specs.Prelude.{◌≡◌, ℕ, ◌+◌, ◌≤◌, ◌⊎◌, true, false, ◌==◌, if◌then◌else◌, List, [], ◌∷◌, Option, Some, None, option_and_then}
use Rattle.record_layouts.specs.Unix.State.{Unix, start_of}
use Rattle.record_layouts.specs.Unix.Choice.{no_keys}
use Rattle.record_layouts.specs.Unix.Turn.{turn, ending_of, closed}
use Rattle.record_layouts.specs.Unix.Traps.{next_trap, pid_of, or_zero, steps_in}
use Rattle.record_layouts.specs.Unix.Broken.{IsBroken, begun_from, done_of, undone_of}
use Rattle.record_layouts.specs.Unix.Wounds.{Wounds}
use Rattle.record_layouts.specs.Unix.Abort.{abort, fates}
use Rattle.record_layouts.specs.declared.fates.Fate.{Fate}
use Rattle.record_layouts.specs.declared.traps.Trap.{Trap}
use Rattle.ow_base.specs.declared.worlds.World.{World}
use Rattle.ow_base.specs.declared.worlds.Ending.{Ending}
use Rattle.ow_base.specs.declared.worlds.PanicLine.{PanicLine}
use Rattle.ow_base.specs.declared.worlds.PanicRecord.{PanicRecord}

-- What the entries of a history stand for: the state, with the steps and traps that are counted beside it, before the
-- damage, and what the damage wounds of it.
pub record Images : Type 0 where
  pub state : PanicRecord → (steps traps : ℕ) → Unix
  pub wounds : PanicRecord → Wounds

-- the panic that a world lists for a trap
abbrev pub or_line : PanicLine → (trap : ℕ) → Option PanicLine → Option PanicLine
or_line line trap other = if line.trap == trap then Some line else other

unfoldable pub line_for : List PanicLine → (trap : ℕ) → Option PanicLine
line_for [] trap = None
line_for (line ∷ lines) trap = or_line line trap (line_for lines trap)

-- the next trap where a panic is listed for its number, and this panic
pub record Due : Type 0 where
  pub trap : Trap
  pub line : PanicLine

abbrev pub due_of : Trap → Option PanicLine → Option Due
due_of t (Some line) = Some (record { trap = t; line = line })
due_of t None = None

unfoldable pub due_at : World → Unix → Option Due
due_at world u = option_and_then (λ t. due_of t (line_for world.panics (u.traps + 1))) (next_trap no_keys world.load.shape u)

-- the panic came at the listed store; or at the end of the trap, which made no more stores than that and one at least
abbrev pub IsAtPoint : (listed : ℕ) → PanicRecord → Type 0
IsAtPoint listed r = ((r.at_leave ≡ false) × (r.store ≡ listed)) ⊎ ((r.at_leave ≡ true) × (1 ≤ r.store) × (r.store ≤ listed))

-- Panic: what an entry of the history says of the trap that was due, and of the state that it stands for. Which word each
-- damage that is listed has hurt is told once there is damage. That no resurrection was broken is asked here, as one that
-- was broken has no place in a run yet.
pub record IsPanicEntry (u : Unix) (due : Due) (r : PanicRecord) (v : Unix) : Type 0 where
  pub trap : r.trap ≡ u.traps + 1
  pub pid : r.pid ≡ or_zero (pid_of due.trap)
  pub listed : r.listed ≡ due.line.store
  pub point : IsAtPoint due.line.store r
  pub broken : IsBroken no_keys u due.trap v
  pub unstored : r.store ≡ 0 → v ≡ undone_of due.trap (begun_from no_keys u due.trap)
  pub over : r.at_leave ≡ true → v ≡ done_of due.trap (begun_from no_keys u due.trap)
  pub lines : r.lines.items ≡ due.line.damages
  pub undamaged : due.line.damages ≡ [] → r.damage.items ≡ []
  pub unbroken : r.broken.items ≡ []

-- the state that the entry of the trap that was due stands for
abbrev pub state_left : Images → Unix → Due → PanicRecord → Unix
state_left images u due r = images.state r (u.steps + steps_in due.trap) (u.traps + 1)

-- the state that a run goes on from
abbrev pub revived_from : Images → Unix → Due → PanicRecord → Unix
revived_from images u due r = abort (state_left images u due r) (images.wounds r)

-- From a state, with a history of panics and the fates that each of them brought, a run ends so and leaves this state. A
-- turn is made, or the closing trap comes, where no panic is listed for its number; else there is a panic.
pub data RunsWith (world : World) (images : Images) : Unix → List PanicRecord → List (List (ℕ × Fate)) → Ending → Unix → Type 0 where
  Ends : (u : Unix) (ending : Ending) → due_at world u ≡ None → ending_of world.load.shape u ≡ Some ending →
      RunsWith world images u [] [] ending (closed u)
  GoesOn : (u : Unix) (history : List PanicRecord) (told : List (List (ℕ × Fate))) (ending : Ending) (w : Unix) →
      due_at world u ≡ None → ending_of world.load.shape u ≡ None →
      RunsWith world images (turn world.load.shape u) history told ending w → RunsWith world images u history told ending w
  Panics : (u : Unix) (due : Due) (r : PanicRecord) (history : List PanicRecord) (told : List (List (ℕ × Fate)))
      (ending : Ending) (w : Unix) → due_at world u ≡ Some due → IsPanicEntry u due r (state_left images u due r) →
      RunsWith world images (revived_from images u due r) history told ending w →
      RunsWith world images u (r ∷ history) (fates (state_left images u due r) (images.wounds r) ∷ told) ending w

-- Run, of a world with panics
abbrev pub RunWith : World → Images → List PanicRecord → List (List (ℕ × Fate)) → Ending → Unix → Type 0
RunWith world images history told ending w = RunsWith world images (start_of world.load) history told ending w
