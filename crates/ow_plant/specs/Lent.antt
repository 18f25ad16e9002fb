-- What of a plant is lent to a kernel that takes over, and what its stores make of it.
use Rattle.std.specs.Prelude.{ℕ, ◌+◌, ◌-◌, ◌*◌, Bool, ◌==◌, ◌||◌, if◌then◌else◌, List, [], Option, None, is_some, slice_set}
use Rattle.std.specs.List.{list_any}
use Rattle.ow_base.specs.declared.machine.AreaId.{AreaId}
use Rattle.ow_base.specs.declared.machine.Shape.{Shape}
use Rattle.phys_memory.specs.Halves.{own_half, with_own}
use Rattle.phys_memory.specs.Memory.{MemoryParts}
use Rattle.ow_plant.specs.Points.{is_past}
use Rattle.ow_plant.specs.State.{Device, PlantState, first_refusal, painted, put_on, risen, risen_far, silent_device, with_cursor}
use Rattle.ow_plant.specs.declared.points.PanicPoint.{PanicPoint}
use Rattle.ow_plant.specs.declared.refusal.Refusal.{Refusal}

-- the words of the half that is not live; the terminals, which have room for 16 bytes a step of the budget; the counts of
-- stores; and what was refused
pub record LentState : Type 0 where
  pub own : List ℕ
  pub tty0 : Device
  pub tty1 : Device
  pub budget : ℕ
  pub stores : ℕ
  pub all_stores : ℕ
  pub refusal : Option Refusal

-- memory of which the half that is not live may lie apart
abbrev pub put_together : (apart : Bool) → MemoryParts → (live : AreaId) → (own : List ℕ) → MemoryParts
put_together apart seen live own = if apart then with_own seen live own else seen

-- of a plant that is armed with a shape and did nothing yet: all words lie in memory
abbrev pub lent_at_first : Shape → LentState
lent_at_first shape = record {
  own = [];
  tty0 = silent_device (16 * shape.budget);
  tty1 = silent_device (16 * shape.budget);
  budget = shape.budget;
  stores = 0;
  all_stores = 0;
  refusal = None;
}

-- what is lent of a plant
abbrev pub lent_of : PlantState → LentState
lent_of s = record {
  own = own_half s.memory s.live;
  tty0 = s.tty0;
  tty1 = s.tty1;
  budget = s.shape.budget;
  stores = s.stores;
  all_stores = s.all_stores;
  refusal = s.refusal;
}

-- a plant of which this is what was lent, and all else as it was
abbrev pub with_lent : PlantState → LentState → PlantState
with_lent s lent = record s {
  shape = record s.shape { budget = lent.budget };
  memory = with_own s.memory s.live lent.own;
  tty0 = lent.tty0;
  tty1 = lent.tty1;
  stores = lent.stores;
  all_stores = lent.all_stores;
  refusal = lent.refusal;
}

-- a store is refused: a refusal stands, or a point of this trap has come
abbrev pub lent_refuses : (points : List PanicPoint) → (trap : ℕ) → LentState → Bool
lent_refuses points trap lent = is_some lent.refusal || list_any (is_past trap lent.stores) points

-- this was refused; a refusal that stands stays
abbrev pub lent_refused : LentState → Refusal → LentState
lent_refused lent one = record lent { refusal = first_refusal lent.refusal one }

-- a store is counted
abbrev pub lent_counted : LentState → LentState
lent_counted lent = record lent { stores = risen lent.stores; all_stores = risen_far lent.all_stores }

-- the terminal with a number below 2
abbrev pub lent_tty : LentState → (tty : ℕ) → Device
lent_tty lent tty = if tty == 0 then lent.tty0 else lent.tty1

-- with another terminal in the place of one
abbrev pub with_tty : LentState → (tty : ℕ) → Device → LentState
with_tty lent tty device = if tty == 0 then record lent { tty0 = device } else record lent { tty1 = device }

-- The stores, each of which is counted: a word, a byte, a row that is painted, and a cursor.
abbrev pub lent_stored : LentState → (first frame word value : ℕ) → LentState
lent_stored lent first frame word value = record (lent_counted lent) { own = slice_set lent.own (1024 * (frame - first) + word) value }

abbrev pub lent_put : LentState → (tty byte : ℕ) → LentState
lent_put lent tty byte = with_tty (lent_counted lent) tty (put_on (lent_tty lent tty) byte)

abbrev pub lent_painted : LentState → (tty row : ℕ) → (text : List ℕ) → LentState
lent_painted lent tty row text = with_tty (lent_counted lent) tty (painted (lent_tty lent tty) row text)

abbrev pub lent_cursor_at : LentState → (tty row col : ℕ) → LentState
lent_cursor_at lent tty row col = with_tty (lent_counted lent) tty (with_cursor (lent_tty lent tty) row col)
