-- That there is room for each panic that is to come, and that memory keeps its size.
use Rattle.std.proofs.Common.{◌≡◌, ℕ, ◌+◌, ◌*◌, ◌^◌, ◌<◌, ◌≤◌, ◌↔◌, Bool, true, false, ◌||◌, List, ◌++◌, map, length, Option, None, is_some, Result, Ok, Err, IsTrue, IsErr, OnOk, OnErr, refl, sym, subst, ap, ◌∙◌, arith, length-append}
use Rattle.std.proofs.lemmas.Bool.{false≢true}
use Rattle.std.proofs.lemmas.Bool.Decides.{nat_tests}
use Rattle.std.specs.List.{list_any}
use Rattle.ow_base.specs.declared.machine.AreaId.{AreaId}
use Rattle.ow_base.specs.declared.machine.AreaId.TheVariants.{A, B}
use Rattle.ow_base.specs.declared.worlds.Point.{Point}
use Rattle.phys_memory.specs.Halves.{own_half, with_own}
use Rattle.phys_memory.specs.Memory.{IsSized, MemoryParts, whole, with_first}
use Rattle.ow_plant.specs.Past.{PastPanics, TakesEntry, no_past}
use Rattle.ow_base.specs.declared.machine.Panicked.{Panicked}
use Rattle.ow_plant.specs.Lent.{LentState, lent_counted, lent_refused, lent_refuses, put_together}
use Rattle.ow_plant.specs.Points.{entered_by, has_come, is_behind, is_in, points_of}
use Rattle.ow_plant.specs.State.{FitsShape, IsExact, IsPlant, first_refusal, risen}
use Rattle.ow_plant.specs.declared.past.Told.{Told}
use Rattle.ow_plant.specs.declared.points.PanicPoint.{PanicPoint}
use Rattle.ow_plant.specs.declared.refusal.Refusal.{Refusal}
use Rattle.ow_plant.specs.declared.refusal.Refusal.TheVariants as refusal
use Rattle.ow_plant.proofs.Armed.{first_sized}
use Rattle.ow_plant.proofs.Exact.{ahead_counted, exact_able, exact_at_first, exact_entered, exact_leave_refused, exact_refused, exact_reviving, not_so}
use Rattle.ow_plant.proofs.Coming.{come_in, come_later, come_past, coming_points_of, fewer_coming, some_coming}

-- how many words memory of a size has
length_sized : (user_frames : ℕ) (m : MemoryParts) → IsSized user_frames m → length (whole m) ≡ 1024 * (257 + 2 * user_frames)
length_sized user_frames m s =
    length-append m.boot (m.a ++ m.b) ∙ ap (λ (n : ℕ). length m.boot + n) (length-append m.a m.b) ∙ rw (s.boot, s.a, s.b) (omega arith)

-- memory in which a half lies apart, and is put back
pub put_back : (m : MemoryParts) (live : AreaId) (words : List ℕ) → with_own (with_own m live words) live (own_half m live) ≡ m
put_back m A words = refl
put_back m B words = refl

-- a count that rises and stands still at its last value does not fall
pub risen_later : (n : ℕ) → n < 2 ^ 32 → n ≤ risen n
risen_later n fits = grind (arith, nat_tests)

-- what a plant that is armed fits does not speak of its memory
fits_armed : (user_frames : ℕ) (m n : MemoryParts) (armed : Bool) → armed ≡ true → FitsShape armed user_frames m → FitsShape armed user_frames n
fits_armed user_frames m n armed is f = record {
  none_before = λ other. absurd (false≢true (sym other ∙ is));
  few_frames = f.few_frames;
}

module _ (armed : Bool) (user_frames : ℕ) (m : MemoryParts) (points : List PanicPoint) (reviving : Bool) (stores : ℕ) (refused : Option Refusal) (traps : ℕ) (past : PastPanics) (is : IsPlant armed user_frames m points reviving stores refused traps past) where
  -- after a trap is begun
  pub plant_entered : traps < 2 ^ 32 → IsPlant armed user_frames m points reviving 0 refused (risen traps) past
  plant_entered few = record {
    fits = is.fits;
    room = record { words = is.room.words; one_each = is.room.one_each; due = λ not is_refused. come_later traps (risen traps) points (risen_later traps few) (is.room.due not is_refused) };
    exact = exact_entered points reviving stores refused traps is.room.due;
  }

  -- after a refusal
  pub plant_refused : (other : Option Refusal) → (reviving ≡ false → list_any (has_come traps) points ≡ true) → IsExact points reviving stores other traps → IsPlant armed user_frames m points reviving stores other traps past
  plant_refused other come exact = record {
    fits = is.fits;
    room = record { words = is.room.words; one_each = is.room.one_each; due = λ not is_refused. come not };
    exact = exact;
  }

  -- with other words in memory
  pub plant_stored : (n : MemoryParts) → armed ≡ true → IsPlant armed user_frames n points reviving stores refused traps past
  plant_stored n on = record { fits = fits_armed user_frames m n armed on is.fits; room = is.room; exact = is.exact }

  -- while another kernel takes over it may be refused what it will
  pub plant_reviving : (n : MemoryParts) (later : ℕ) (other : Option Refusal) → armed ≡ true → reviving ≡ true → IsPlant armed user_frames n points reviving later other traps past
  plant_reviving n later other on revives = record {
    fits = fits_armed user_frames m n armed on is.fits;
    room = record { words = is.room.words; one_each = is.room.one_each; due = λ not is_refused. absurd (false≢true (sym not ∙ revives)) };
    exact = exact_reviving points reviving later other traps revives;
  }

  -- another kernel has taken over, and nothing is refused
  pub plant_live : (n : MemoryParts) → armed ≡ true → is_some refused ≡ false → list_any (is_behind traps stores) points ≡ false → IsPlant armed user_frames n points false stores refused traps past
  plant_live n on none ahead = record {
    fits = fits_armed user_frames m n armed on is.fits;
    room = record { words = is.room.words; one_each = is.room.one_each; due = λ not is_refused. absurd (false≢true (sym none ∙ is_refused)) };
    exact = exact_able points false stores refused traps none ahead;
  }

  -- there is room where a refusal stands
  pub plant_has_room : reviving ≡ false → is_some refused ≡ true → 0 < past.room
  plant_has_room not refusal = let some = some_coming traps points (is.room.due not refusal) in let each = is.room.one_each in omega arith

  -- for the words of memory, also when the first of them are set
  pub plant_has_words : (words : List ℕ) → armed ≡ true → IsSized user_frames m → length words ≡ 40 → length (whole (with_first m words)) ≤ past.words
  plant_has_words words on sized few =
      let size = length_sized user_frames (with_first m words) (first_sized user_frames m words few sized) in
      let room = is.room.words on in
      omega arith

  -- and after the panic is entered
  pub plant_panicked : (all : List ℕ) (told : Told) (later : PastPanics) (n : MemoryParts) → armed ≡ true → reviving ≡ false → is_some refused ≡ true → TakesEntry told all past later
      → IsPlant armed user_frames n (map (entered_by traps) points) true 0 None traps later
  plant_panicked all told later n on not refusal taken = record {
    fits = fits_armed user_frames m n armed on is.fits;
    room = record {
      words = λ armed. taken.words ∙ is.room.words armed;
      one_each = let fewer = fewer_coming traps points (is.room.due not refusal) in let each = is.room.one_each in let room = taken.room in omega arith;
      due = λ other none. absurd (false≢true (sym other));
    };
    exact = exact_reviving (map (entered_by traps) points) true 0 None traps refl;
  }

-- a plant is armed
pub plant_armed : (user_frames : ℕ) (m : MemoryParts) (points : List Point) (words : ℕ) → words ≡ 1024 * (257 + 2 * user_frames) → user_frames ≤ 384
    → IsPlant true user_frames m (points_of points) false 0 None 0 (no_past (length points) words)
plant_armed user_frames m points words all frames = record {
  fits = record { none_before = λ other. absurd (false≢true (sym other)); few_frames = frames };
  room = record {
    words = λ is. all;
    one_each = let each = coming_points_of points in omega arith;
    due = λ not none. absurd (false≢true none);
  };
  exact = exact_at_first (points_of points);
}

-- what follows from each of two tests
either_test : {P : Type 0} (a b : Bool) → (a || b) ≡ true → (a ≡ true → P) → (b ≡ true → P) → P
either_test true b is first second = first refl
either_test false b is first second = second is

module _ (armed : Bool) (user_frames : ℕ) (m : MemoryParts) (live : AreaId) (points : List PanicPoint) (reviving : Bool) (traps : ℕ) (past : PastPanics) (old new : LentState)
    (is : IsPlant armed user_frames (put_together reviving m live old.own) points reviving old.stores old.refusal traps past) where
  -- a plant of which this is lent
  abbrev IsWith : LentState → Type 0
  IsWith lent = IsPlant armed user_frames (put_together reviving m live lent.own) points reviving lent.stores lent.refusal traps past

  -- where a store is refused a point has come, unless another kernel takes over
  refuses_due : lent_refuses points traps old ≡ true → reviving ≡ false → list_any (has_come traps) points ≡ true
  refuses_due refuses not = either_test (is_some old.refusal) _ refuses (is.room.due not) (come_past traps old.stores points)

  -- where none is refused, none stands, and no point is behind when it is made
  counted_with : (is_some old.refusal ≡ false) × (list_any (is_behind traps (risen old.stores)) points ≡ false) → IsWith (lent_counted old)
  counted_with ahead = record {
    fits = is.fits;
    room = is.room;
    exact = exact_able points reviving (risen old.stores) old.refusal traps ahead.0 ahead.1;
  }

  -- after a store is counted or refused
  pub plant_counted : {A : Type 0} (result : Result A Panicked) → IsTrue (lent_refuses points traps old) ↔ IsErr result
      → OnOk result (new ≡ lent_counted old) → OnErr result (new ≡ lent_refused old refusal.Store) → IsWith new
  plant_counted (Ok made) exact ok err = subst IsWith (sym ok) (counted_with (ahead_counted points reviving old.stores old.refusal traps (not_so _ exact.0)))
  plant_counted (Err panicked) exact ok err =
      subst IsWith (sym err) (plant_refused armed user_frames _ points reviving old.stores old.refusal traps past is (first_refusal old.refusal refusal.Store) (refuses_due (exact.1 refl))
      (exact_refused points reviving old.stores old.refusal traps is.exact (exact.1 refl)))

  -- after the end of a trap is refused
  pub plant_leave_refused : (is_some old.refusal || list_any (is_in traps) points) ≡ true → new ≡ lent_refused old refusal.Leave → IsWith new
  plant_leave_refused refuses stands =
      subst IsWith (sym stands) (plant_refused armed user_frames _ points reviving old.stores old.refusal traps past is (first_refusal old.refusal refusal.Leave)
      (λ not. either_test (is_some old.refusal) _ refuses (is.room.due not) (come_in traps points)) (exact_leave_refused points reviving old.stores old.refusal traps is.exact refuses))
