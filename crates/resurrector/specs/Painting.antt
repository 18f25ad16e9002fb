-- What is seen of a terminal when its display is painted from records.
use Rattle.std.specs.Prelude.{◌≡◌, ◌≢◌, ℕ, ◌<◌, List, [], length, slice_index_or, Some}
use Rattle.record_layouts.specs.Held.{Records}
use Rattle.record_layouts.specs.Terminals.{display_row}
use Rattle.ow_plant.specs.Lent.{LentState, lent_tty}

-- so many rows from the top are those that the records show
pub record ShowsRows (r : Records) (tty count : ℕ) (rows : List (List ℕ)) : Type 0 where
  pub long : length rows ≡ 24
  pub wide : (row : ℕ) → row < count → length (slice_index_or rows row []) ≡ 80
  pub shown : (row : ℕ) → row < count → display_row r tty row ≡ Some (slice_index_or rows row [])

-- of what is lent only what is seen of a terminal has changed, and the counts of stores and the refusal
pub record ChangesDisplay (tty : ℕ) (old new : LentState) : Type 0 where
  pub own : new.own ≡ old.own
  pub budget : new.budget ≡ old.budget
  pub tape : (lent_tty new tty).tape ≡ (lent_tty old tty).tape
  pub room : (lent_tty new tty).room ≡ (lent_tty old tty).room
  pub other : (n : ℕ) → n < 2 → n ≢ tty → lent_tty new n ≡ lent_tty old n

-- only what is seen of the two terminals has changed, and the counts of stores and the refusal
pub record ChangesDisplays (old new : LentState) : Type 0 where
  pub own : new.own ≡ old.own
  pub budget : new.budget ≡ old.budget
  pub tape0 : new.tty0.tape ≡ old.tty0.tape
  pub room0 : new.tty0.room ≡ old.tty0.room
  pub tape1 : new.tty1.tape ≡ old.tty1.tape
  pub room1 : new.tty1.room ≡ old.tty1.room
