-- That a plant refuses exactly at a point.
use Rattle.std.proofs.Common.{◌≡◌, ℕ, ◌+◌, ◌-◌, ◌^◌, ◌<◌, ◌≤◌, Bool, true, false, ◌||◌, List, [], ◌∷◌, map, Option, Some, None, is_some, refl, sym, ap, ◌∙◌, arith}
use Rattle.std.proofs.lemmas.Bool.{false≢true}
use Rattle.std.proofs.lemmas.Bool.Decides.{nat_tests}
use Rattle.std.proofs.lemmas.Grind.{common_steps}
use Rattle.std.specs.List.{list_any}
use Rattle.ow_plant.specs.Points.{entered_by, has_come, is_ahead, is_at, is_behind, is_in, is_missed, is_past}
use Rattle.ow_plant.specs.State.{EntersPanic, IsExact, PlantState, first_refusal, is_leave, risen}
use Rattle.ow_plant.specs.declared.points.PanicPoint.{PanicPoint}
use Rattle.ow_plant.specs.declared.refusal.Refusal.{Refusal}
use Rattle.ow_plant.specs.declared.refusal.Refusal.TheVariants as refusal

-- where no store is made no point is behind
none_behind_at_first : (trap : ℕ) (points : List PanicPoint) → list_any (is_behind trap 0) points ≡ false
none_behind_at_first trap [] = refl
none_behind_at_first trap (point ∷ points) = grind (arith, nat_tests, common_steps, none_behind_at_first trap points)

-- and none is after one more store, where none was past
none_behind_next : (trap made next : ℕ) (points : List PanicPoint) → next ≤ made + 1 → list_any (is_past trap made) points ≡ false → list_any (is_behind trap next) points ≡ false
none_behind_next trap made next [] one none = refl
none_behind_next trap made next (point ∷ points) one none = grind (arith, nat_tests, common_steps, one, none, none_behind_next trap made next points one)

-- a point that is past and not behind has exactly its number of stores
at_past : (trap made : ℕ) (points : List PanicPoint) → list_any (is_behind trap made) points ≡ false → list_any (is_past trap made) points ≡ true → list_any (is_at trap made) points ≡ true
at_past trap made [] none is = grind (arith, is)
at_past trap made (point ∷ points) none is = grind (arith, nat_tests, common_steps, none, is, at_past trap made points)

-- and a point of this trap that is not behind has at most so many
ahead_in : (trap made : ℕ) (points : List PanicPoint) → list_any (is_behind trap made) points ≡ false → list_any (is_in trap) points ≡ true → list_any (is_ahead trap made) points ≡ true
ahead_in trap made [] none is = grind (arith, is)
ahead_in trap made (point ∷ points) none is = grind (arith, nat_tests, common_steps, none, is, ahead_in trap made points)

-- a point whose trap has come is missed in a later one
missed_later : (trap later : ℕ) (points : List PanicPoint) → trap < later → list_any (has_come trap) points ≡ true → list_any (is_missed later) points ≡ true
missed_later trap later [] after is = grind (arith, is)
missed_later trap later (point ∷ points) after is = grind (arith, nat_tests, common_steps, after, is, missed_later trap later points after)

-- after a panic is entered no point of its trap is to come, and none is missed
none_in_entered : (trap : ℕ) (points : List PanicPoint) → list_any (is_in trap) (map (entered_by trap) points) ≡ false
none_in_entered trap [] = refl
none_in_entered trap (point ∷ points) = grind (arith, nat_tests, common_steps, none_in_entered trap points)

none_come_entered : (trap : ℕ) (points : List PanicPoint) → list_any (has_come trap) (map (entered_by trap) points) ≡ false
none_come_entered trap [] = refl
none_come_entered trap (point ∷ points) = grind (arith, nat_tests, common_steps, none_come_entered trap points)

-- the points that a later trap misses are those that had come before it
pub missed_is_come : (trap : ℕ) (points : List PanicPoint) → list_any (is_missed (trap + 1)) points ≡ list_any (has_come trap) points
missed_is_come trap [] = refl
missed_is_come trap (point ∷ points) = grind (arith, nat_tests, common_steps, missed_is_come trap points)

-- none has come by the next trap, which has none
pub none_come_next : (trap : ℕ) (points : List PanicPoint) → list_any (has_come trap) points ≡ false → list_any (is_in (trap + 1)) points ≡ false → list_any (has_come (trap + 1)) points ≡ false
none_come_next trap [] so_far next = refl
none_come_next trap (point ∷ points) so_far next = grind (arith, nat_tests, common_steps, so_far, next, none_come_next trap points)

risen_by_one : (n : ℕ) → risen n ≤ n + 1
risen_by_one n = grind (arith, nat_tests)

risen_further : (n : ℕ) → risen n < 2 ^ 32 - 1 → n < risen n
risen_further n few = grind (arith, nat_tests, few)

-- neither of two tests, and what is not so
neither : (a b : Bool) → (a || b) ≡ false → (a ≡ false) × (b ≡ false)
neither true b is = absurd (false≢true (sym is))
neither false b is = (refl, is)

pub not_so : (test : Bool) → (test ≡ true → false ≡ true) → test ≡ false
not_so true other = absurd (false≢true (other refl))
not_so false other = refl

module _ (points : List PanicPoint) (reviving : Bool) (stores : ℕ) (refused : Option Refusal) (traps : ℕ) where
  -- while another kernel takes over nothing is said
  pub exact_reviving : reviving ≡ true → IsExact points reviving stores refused traps
  exact_reviving revives = record {
    none_behind = λ not. absurd (false≢true (sym not ∙ revives));
    store = λ not. absurd (false≢true (sym not ∙ revives));
    leave = λ not. absurd (false≢true (sym not ∙ revives));
  }

  -- where nothing is refused
  pub exact_able : is_some refused ≡ false → list_any (is_behind traps stores) points ≡ false → IsExact points reviving stores refused traps
  exact_able able ahead = record {
    none_behind = λ not. ahead;
    store = λ not few none stands. absurd (false≢true (sym able ∙ ap is_some stands));
    leave = λ not few none stands. absurd (false≢true (sym able ∙ ap is_some stands));
  }

  -- after a store is counted, which is not refused
  pub ahead_counted : (is_some refused || list_any (is_past traps stores) points) ≡ false → (is_some refused ≡ false) × (list_any (is_behind traps (risen stores)) points ≡ false)
  ahead_counted made =
      let tests = neither (is_some refused) _ made in
      (tests.0, none_behind_next traps stores (risen stores) points (risen_by_one stores) tests.1)

  -- after a trap is begun: a refusal that stands is of an earlier trap
  pub exact_entered : (reviving ≡ false → is_some refused ≡ true → list_any (has_come traps) points ≡ true) → IsExact points reviving 0 refused (risen traps)
  exact_entered due = record {
    none_behind = λ not. none_behind_at_first (risen traps) points;
    store = λ not few none stands. absurd (false≢true (sym none ∙ missed_later traps (risen traps) points (risen_further traps few) (due not (ap is_some stands))));
    leave = λ not few none stands. absurd (false≢true (sym none ∙ missed_later traps (risen traps) points (risen_further traps few) (due not (ap is_some stands))));
  }

-- before any trap
pub exact_at_first : (points : List PanicPoint) → IsExact points false 0 None 0
exact_at_first points = exact_able points false 0 None 0 refl (none_behind_at_first 0 points)

-- after a store is refused, or the end of a trap
pub exact_refused : (points : List PanicPoint) (reviving : Bool) (stores : ℕ) (refused : Option Refusal) (traps : ℕ) → IsExact points reviving stores refused traps
    → (is_some refused || list_any (is_past traps stores) points) ≡ true → IsExact points reviving stores (first_refusal refused refusal.Store) traps
exact_refused points reviving stores (Some stands) traps is refuses = is
exact_refused points reviving stores None traps is refuses = record {
  none_behind = is.none_behind;
  store = λ not few none stands. at_past traps stores points (is.none_behind not) refuses;
  leave = λ not few none stands. absurd (false≢true (ap is_leave stands));
}

pub exact_leave_refused : (points : List PanicPoint) (reviving : Bool) (stores : ℕ) (refused : Option Refusal) (traps : ℕ) → IsExact points reviving stores refused traps
    → (is_some refused || list_any (is_in traps) points) ≡ true → IsExact points reviving stores (first_refusal refused refusal.Leave) traps
exact_leave_refused points reviving stores (Some stands) traps is refuses = is
exact_leave_refused points reviving stores None traps is refuses = record {
  none_behind = is.none_behind;
  store = λ not few none stands. absurd (false≢true (sym (ap is_leave stands)));
  leave = λ not few none stands. ahead_in traps stores points (is.none_behind not) refuses;
}

-- a panic that was entered is over
pub over_in : (old new : PlantState) → EntersPanic old new → list_any (is_in new.traps) new.points ≡ false
over_in old new enters = ap (λ (s : PlantState). list_any (is_in s.traps) s.points) enters.after ∙ none_in_entered old.traps old.points

pub over_come : (old new : PlantState) → EntersPanic old new → list_any (has_come new.traps) new.points ≡ false
over_come old new enters = ap (λ (s : PlantState). list_any (has_come s.traps) s.points) enters.after ∙ none_come_entered old.traps old.points
