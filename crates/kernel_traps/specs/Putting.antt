-- Bytes that are written on a terminal: counted and drawn in its records, and put on the device.
use Rattle.std.specs.Prelude.{◌≡◌, ℕ, ◌+◌, ◌<◌, ◌⊎◌, ◌==◌, if◌then◌else◌, List, [], ◌∷◌, ◌++◌, length, take, Option, Some}
use Rattle.ow_base.specs.Screen.{Screen, drawn_all}
use Rattle.record_layouts.specs.declared.term.TermRec.{TermRec}
use Rattle.record_layouts.specs.Held.{Held, Records}
use Rattle.tty_screen.specs.Drawing.{StaysBeside}
use Rattle.tty_screen.specs.Shown.{ShowsScreen, TerminalDecodes}
use Rattle.ow_plant.specs.State.{PlantState, risen, Device}

-- the last of some bytes, where there is one
abbrev pub last_of : (last : ℕ) → (bytes : List ℕ) → ℕ
last_of last [] = last
last_of last (byte ∷ bytes) = last_of byte bytes

-- the count of the bytes written, after some more: it stands still at its last value
abbrev pub counted_after : (written : ℕ) → (bytes : List ℕ) → ℕ
counted_after written [] = written
counted_after written (byte ∷ bytes) = counted_after (risen written) bytes

-- the terminal's record knows of these bytes more
pub record CountsBytes (bytes : List ℕ) (before after : TermRec) : Type 0 where
  pub written : after.written ≡ counted_after before.written bytes
  pub last : after.last ≡ last_of before.last bytes
  pub consumed : after.consumed ≡ before.consumed
  pub base : after.base ≡ before.base
  pub tty : after.tty ≡ before.tty

-- the same of records that decode
abbrev pub AreCounted : (bytes : List ℕ) → (before after : Option TermRec) → Type 0
AreCounted bytes (Some before) (Some after) = CountsBytes bytes before after
AreCounted bytes before after = ⊥

-- bytes are drawn one after the other in the records of a terminal
pub record AreDrawn (tty : ℕ) (bytes : List ℕ) (old new : Records) : Type 0 where
  pub beside : StaysBeside tty old new
  pub counted : AreCounted bytes (old.terms tty) (new.terms tty)
  pub shows : (screen : Screen) → ShowsScreen old tty screen → ShowsScreen new tty (drawn_all screen bytes)
  pub decodes : TerminalDecodes new tty

-- bytes are put on a device
abbrev pub puts_on : Device → (bytes : List ℕ) → Device
puts_on t bytes = record t { tape = t.tape ++ bytes; display = drawn_all t.display bytes }

abbrev pub with_puts : PlantState → (tty : ℕ) → (bytes : List ℕ) → PlantState
with_puts s tty bytes = if tty == 0 then record s { tty0 = puts_on s.tty0 bytes } else record s { tty1 = puts_on s.tty1 bytes }

-- of a held plant nothing changes but that bytes are counted and drawn in the records of a terminal, and that bytes are
-- out on its device
pub record IsPut (h : Held PlantState) (tty : ℕ) (counted out : List ℕ) (new : Held PlantState) : Type 0 where
  pub drawn : AreDrawn tty counted h.records new.records
  pub rest : new ≡ record h { records = new.records; rest = with_puts h.rest tty out }

-- what a refusal may leave of bytes that are put: the first of them are counted and out, and of the next one the record
-- may know already
abbrev pub IsPutPartly : (h : Held PlantState) → (tty : ℕ) → (bytes : List ℕ) → (new : Held PlantState) → Type 0
IsPutPartly h tty bytes new = (count : ℕ) × (count < length bytes)
    × (IsPut h tty (take count bytes) (take count bytes) new ⊎ IsPut h tty (take (count + 1) bytes) (take count bytes) new)
