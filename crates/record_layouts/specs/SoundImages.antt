-- What holds of the image of a kernel's memory: between its turns, and when a panic has broken one of its traps. Both are
-- said of the same parts.
use Rattle.std.specs.Prelude.{◌≡◌, ℕ, ◌+◌, ◌-◌, ◌*◌, ◌^◌, ◌<◌, ◌≤◌, true, List, length, IfSome}
use Rattle.ow_base.specs.Images.{Image}
use Rattle.record_layouts.specs.declared.intent.Gate.TheVariants.{Closed}
use Rattle.record_layouts.specs.declared.term.TermRec.{TermRec}
use Rattle.record_layouts.specs.Decode.{tape_by}
use Rattle.record_layouts.specs.Held.{AreComplete, AreValues, Records}
use Rattle.record_layouts.specs.Images.{gate_of_image, records_of_image}
use Rattle.record_layouts.specs.Reading.{is_readable_gate}
use Rattle.record_layouts.specs.Sound.{AreInCalls, AreInBuiltCalls, AreNumbered, AreOnTerminals, AreSound, HaveFrames}
use Rattle.record_layouts.specs.Terminals.{IsOfTape}

-- the trap that the head has as served comes before this one
abbrev pub IsServedBefore : Records → (trap : ℕ) → Type 0
IsServedBefore r trap = IfSome r.head (λ head. head.served < trap)

-- Each terminal is of its tape, by a function of its number and its record, and the tape has at most 16 bytes for each of so
-- many steps.
pub record AreOfTapes (r : Records) (tape : (tty : ℕ) → TermRec → List ℕ) (steps : ℕ) : Type 0 where
  pub records : (tty : ℕ) → tty < 2 → IfSome (r.terms tty) (λ terminal. IsOfTape r tty (tape tty terminal) terminal)
  pub few : (tty : ℕ) → tty < 2 → IfSome (r.terms tty) (λ terminal. length (tape tty terminal) ≤ 16 * steps)

-- Sound between turns, where so many steps are made and this trap is the next one. What is no part of the image is said of
-- the machine: that no refusal stands, what the displays show, and which process is in user mode.
pub record IsSoundImage (i : Image) (steps coming : ℕ) : Type 0 where
  pub shut : gate_of_image i ≡ Closed
  pub records : AreSound (records_of_image i)
  pub on_terminals : AreOnTerminals (records_of_image i)
  pub in_built_calls : AreInBuiltCalls (records_of_image i)
  pub served : IsServedBefore (records_of_image i) coming
  pub terminals : AreOfTapes (records_of_image i) (λ tty terminal. i.tapes tty) steps

-- Sound at a panic that broke this trap, which is among so many steps where it is one. An intent may be open, and is laid
-- over the area; the trap may be served; tables need not be clean; and a terminal may count a byte that its device has not
-- shown, which then is the last one of its tape.
pub record IsSoundAtPanic (i : Image) (steps trap : ℕ) : Type 0 where
  pub whole : is_readable_gate (gate_of_image i) ≡ true
  pub complete : AreComplete (records_of_image i)
  pub values : AreValues (records_of_image i)
  pub numbered : AreNumbered (records_of_image i)
  pub in_calls : AreInCalls (records_of_image i)
  pub mapped : HaveFrames (records_of_image i)
  pub on_terminals : AreOnTerminals (records_of_image i)
  pub in_built_calls : AreInBuiltCalls (records_of_image i)
  pub served : IsServedBefore (records_of_image i) (trap + 1)
  pub counted : trap < 2 ^ 32 - 1
  pub terminals : AreOfTapes (records_of_image i) (λ tty terminal. tape_by (i.tapes tty) terminal) steps
