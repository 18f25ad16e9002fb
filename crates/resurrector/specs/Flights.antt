-- Bytes in flight: the dead kernel counts them as written, and their devices have not written them.
use Rattle.std.specs.Prelude.{◌≡◌, ◌≢◌, ℕ, ◌<◌, ◌⊎◌, if◌then◌else◌, List, length}
use Rattle.record_layouts.specs.Decode.{terminal_by}
use Rattle.record_layouts.specs.Held.{Records}
use Rattle.dead_reader.specs.Terminals.{IsInFlight, terminal_decodes}
use Rattle.ow_plant.specs.Lent.{LentState, lent_tty}
use Rattle.ow_plant.specs.State.{Device}

-- the tape of a terminal's device, with the byte in flight where the terminal decodes and counts one
unfoldable pub tape_put : Records → (tty : ℕ) → (tape : List ℕ) → List ℕ
tape_put r tty tape = if terminal_decodes r tty then (terminal_by tape (r.terms tty)).tape else tape

-- there is room for the byte in flight of a terminal, where there is one
abbrev pub HasFlightRoom : Records → (tty : ℕ) → Device → Type 0
HasFlightRoom r tty device = (byte : ℕ) → IsInFlight r tty (length device.tape) byte → length device.tape < device.room

-- a tape is as it was, or longer by the byte in flight
abbrev pub IsTapeLeft : Records → (tty : ℕ) → (old new : List ℕ) → Type 0
IsTapeLeft r tty old new = (new ≡ old) ⊎ (new ≡ tape_put r tty old)

-- of what is lent only the device of a terminal has changed, and the counts of stores and the refusal
pub record LeavesFlight (r : Records) (tty : ℕ) (old new : LentState) : Type 0 where
  pub own : new.own ≡ old.own
  pub budget : new.budget ≡ old.budget
  pub tape : IsTapeLeft r tty (lent_tty old tty).tape (lent_tty new tty).tape
  pub room : (lent_tty new tty).room ≡ (lent_tty old tty).room
  pub long : length (lent_tty old tty).display.rows ≡ 24 → length (lent_tty new tty).display.rows ≡ 24
  pub other : (n : ℕ) → n < 2 → n ≢ tty → lent_tty new n ≡ lent_tty old n

-- only the devices of the two terminals have changed, and the counts of stores and the refusal
pub record LeavesFlights (r : Records) (old new : LentState) : Type 0 where
  pub own : new.own ≡ old.own
  pub budget : new.budget ≡ old.budget
  pub tape0 : IsTapeLeft r 0 old.tty0.tape new.tty0.tape
  pub room0 : new.tty0.room ≡ old.tty0.room
  pub long0 : length old.tty0.display.rows ≡ 24 → length new.tty0.display.rows ≡ 24
  pub tape1 : IsTapeLeft r 1 old.tty1.tape new.tty1.tape
  pub room1 : new.tty1.room ≡ old.tty1.room
  pub long1 : length old.tty1.display.rows ≡ 24 → length new.tty1.display.rows ≡ 24
