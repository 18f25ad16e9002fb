-- The panics that a plant is armed with.
use Rattle.std.specs.Prelude.{◌≡◌, ℕ, ◌+◌, ◌<◌, ◌≤◌, Bool, false, nat_le, nat_lt, ◌==◌, ◌&&◌, ◌||◌, not, if◌then◌else◌, List, [], ◌∷◌, map, length}
use Rattle.std.specs.List.{All, AllPairs}
use Rattle.ow_base.specs.declared.worlds.Point.{Point}
use Rattle.ow_plant.specs.declared.points.PanicPoint.{PanicPoint}

-- where they come, and that none was entered yet
abbrev pub points_of : List Point → List PanicPoint
points_of points = map (λ (p : Point). record { trap = p.trap; store = p.store; entered = false }) points

-- at most 32, each in a trap of its own, in the order of the traps; boot, which is trap 0, has none. What they damage
-- and what they refuse of a resurrection is not built yet
pub record ArePoints (points : List Point) : Type 0 where
  pub few : length points ≤ 32
  pub from_one : All (λ (p : Point). 1 ≤ p.trap) points
  pub rising : AllPairs (λ (a b : Point). a.trap < b.trap) points
  pub no_damages : All (λ (p : Point). p.damages.items ≡ []) points
  pub no_agains : All (λ (p : Point). p.agains.items ≡ []) points

-- a point is one of this trap, and its panic was not entered yet
abbrev pub is_in : (trap : ℕ) → PanicPoint → Bool
is_in trap point = (point.trap == trap) && not point.entered

-- a point is one of this trap, in which at least its number of stores is made
abbrev pub is_past : (trap made : ℕ) → PanicPoint → Bool
is_past trap made point = (point.trap == trap) && (not point.entered && nat_le point.store made)

-- a point is one of this trap, and exactly its number of stores is made in it
abbrev pub is_at : (trap made : ℕ) → PanicPoint → Bool
is_at trap made point = (point.trap == trap) && (not point.entered && point.store == made)

-- a point is one of this trap, and at most its number of stores is made in it
abbrev pub is_ahead : (trap made : ℕ) → PanicPoint → Bool
is_ahead trap made point = (point.trap == trap) && (not point.entered && nat_le made point.store)

-- a point is one of this trap, and more than its number of stores are made in it
abbrev pub is_behind : (trap made : ℕ) → PanicPoint → Bool
is_behind trap made point = (point.trap == trap) && (not point.entered && nat_lt point.store made)

-- a point is one of a trap before this one, and its panic was not entered: a later trap began in its place
abbrev pub is_missed : (trap : ℕ) → PanicPoint → Bool
is_missed trap point = nat_lt point.trap trap && not point.entered

-- the trap of a point has come, and its panic was not entered yet
abbrev pub has_come : (trap : ℕ) → PanicPoint → Bool
has_come trap point = nat_le point.trap trap && not point.entered

-- a point after a panic in a trap: it does not come again, nor does one whose trap is over
abbrev pub entered_by : (trap : ℕ) → PanicPoint → PanicPoint
entered_by trap point = record point { entered = point.entered || nat_le point.trap trap }

-- how many panics are to come
abbrev pub coming : List PanicPoint → ℕ
coming [] = 0
coming (point ∷ points) = (if point.entered then 0 else 1) + coming points

-- the store that is listed for a trap, 0 where none is
abbrev pub listed_for : (trap : ℕ) → List PanicPoint → ℕ
listed_for trap [] = 0
listed_for trap (point ∷ points) = if point.trap == trap then point.store else listed_for trap points
