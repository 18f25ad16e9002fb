-- How many panics are to come.
use Rattle.std.proofs.Common.{◌≡◌, ℕ, ◌+◌, ◌≤◌, true, List, [], ◌∷◌, map, length, refl, arith}
use Rattle.std.proofs.lemmas.Bool.Decides.{nat_tests}
use Rattle.std.proofs.lemmas.Grind.{common_steps}
use Rattle.std.specs.List.{list_any}
use Rattle.ow_base.specs.declared.worlds.Point.{Point}
use Rattle.ow_plant.specs.Points.{coming, entered_by, has_come, is_in, is_past, points_of}
use Rattle.ow_plant.specs.declared.points.PanicPoint.{PanicPoint}

-- before any is entered all are to come
pub coming_points_of : (points : List Point) → coming (points_of points) ≡ length points
coming_points_of [] = refl
coming_points_of (point ∷ points) = grind (arith, common_steps, coming_points_of points)

-- where the trap of one has come that was not entered, one is to come
pub some_coming : (trap : ℕ) (points : List PanicPoint) → list_any (has_come trap) points ≡ true → 1 ≤ coming points
some_coming trap [] is = grind (arith, is)
some_coming trap (point ∷ points) is = grind (arith, nat_tests, common_steps, is, some_coming trap points)

-- no more are to come after one is entered
pub coming_entered : (trap : ℕ) (points : List PanicPoint) → coming (map (entered_by trap) points) ≤ coming points
coming_entered trap [] = omega arith
coming_entered trap (point ∷ points) = grind (arith, nat_tests, common_steps, coming_entered trap points)

-- and fewer where the trap of one has come
pub fewer_coming : (trap : ℕ) (points : List PanicPoint) → list_any (has_come trap) points ≡ true → coming (map (entered_by trap) points) + 1 ≤ coming points
fewer_coming trap [] is = grind (arith, is)
fewer_coming trap (point ∷ points) is = grind (arith, nat_tests, common_steps, is, fewer_coming trap points, coming_entered trap points)

-- a point that refuses is one whose trap has come, and stays so
pub come_past : (trap made : ℕ) (points : List PanicPoint) → list_any (is_past trap made) points ≡ true → list_any (has_come trap) points ≡ true
come_past trap made [] is = grind (arith, is)
come_past trap made (point ∷ points) is = grind (arith, nat_tests, common_steps, is, come_past trap made points)

pub come_in : (trap : ℕ) (points : List PanicPoint) → list_any (is_in trap) points ≡ true → list_any (has_come trap) points ≡ true
come_in trap [] is = grind (arith, is)
come_in trap (point ∷ points) is = grind (arith, nat_tests, common_steps, is, come_in trap points)

pub come_later : (trap later : ℕ) (points : List PanicPoint) → trap ≤ later → list_any (has_come trap) points ≡ true → list_any (has_come later) points ≡ true
come_later trap later [] after is = grind (arith, is)
come_later trap later (point ∷ points) after is = grind (arith, nat_tests, common_steps, after, is, come_later trap later points after)
