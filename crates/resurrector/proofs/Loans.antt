-- The plant after what was lent of it is given back.
use Rattle.std.proofs.Common.{◌≡◌, ℕ, ◌+◌, ◌/◌, ◌<◌, ◌≤◌, List, length, true, is_some, refl, sym, ap, ◌∙◌, arith}
use Rattle.std.proofs.lemmas.Bool.Decides.{nat_tests}
use Rattle.std.proofs.lemmas.Grind.{common_steps}
use Rattle.ow_base.specs.Screen.{Screen}
use Rattle.ow_base.specs.Sv32.{WordMap}
use Rattle.ow_base.specs.declared.machine.AreaId.{AreaId}
use Rattle.ow_base.specs.declared.machine.AreaId.TheVariants.{A, B}
use Rattle.phys_memory.specs.Halves.{first_own, own_half, with_own, words_beside, words_from}
use Rattle.phys_memory.specs.Memory.{IsSized, MemoryParts}
use Rattle.phys_memory.proofs.Own.{first_own-sized_a, first_own-sized_b, own_half-sized}
use Rattle.record_layouts.specs.Halves.{half_map}
use Rattle.record_layouts.specs.Reading.{records_of}
use Rattle.record_layouts.specs.Terminals.{ShowsScreen}
use Rattle.kernel_builder.specs.Plan.{HasFrames}
use Rattle.kernel_builder.specs.Reading.{IsReadAs}
use Rattle.kernel_builder.specs.Sets.{IsBuilt}
use Rattle.ow_plant.specs.Dead.{DeadState}
use Rattle.ow_plant.specs.Lent.{LentState, lent_of}
use Rattle.ow_plant.specs.State.{Device, IsArmed, PlantState}
use Rattle.ow_plant.proofs.Loans.{beside_stays}
use Rattle.dead_reader.specs.Left.{records_left}
use Rattle.resurrector.specs.Counts.{most_stores}
use Rattle.resurrector.specs.Flights.{HasFlightRoom, IsTapeLeft, tape_put}
use Rattle.resurrector.specs.Plants.{other_area, own_map, own_words_in}
use Rattle.resurrector.specs.Revived.{plan_of}

word_there : (first : ℕ) (words : List ℕ) (frame word : ℕ) → first ≤ frame → frame < first + length words / 1024 → word < 1024
    → is_some (words_from first words frame word) ≡ true
word_there first words frame word from below fits = grind (arith, nat_tests, common_steps)

-- the half that is not live has the frames of a kernel
has_frames : (u sectors first : ℕ) (words : List ℕ) (area : AreaId) → u ≤ 384 → length words / 1024 ≡ 128 + u
    → (half_map area u sectors).area_base ≡ first → first ≤ 129 + u
    → (half_map area u sectors).pool_base ≡ first + 128
    → HasFrames (words_from first words) (half_map area u sectors)
has_frames u sectors first words area few long base low pool = record {
  area = record {
    numbered = omega (arith, base, low, few);
    there = λ frame word f w. word_there first words _ word (omega (arith, base)) (omega (arith, base, long, f)) w;
  };
  low = omega (arith, base, low, few);
  numbered = omega (arith, pool, low, few);
  few = few;
  apart = omega (arith, base, pool);
  there = λ frame word f w. word_there first words _ word (omega (arith, pool)) (omega (arith, pool, long, f)) w;
}

half_has_frames : (u sectors : ℕ) (m : MemoryParts) (dead : AreaId) → IsSized u m → u ≤ 384
    → HasFrames (words_from (first_own m dead) (own_half m dead)) (half_map (other_area dead) u sectors)
half_has_frames u sectors m A sized few =
    rw (first_own-sized_a sized) (has_frames u sectors (129 + u) m.b B few (own_half-sized sized A) refl (omega arith) (omega arith))
half_has_frames u sectors m B sized few =
    rw (first_own-sized_b sized) (has_frames u sectors 1 m.a A few (own_half-sized sized B) refl (omega arith) (omega arith))

pub lends_frames : (s : PlantState) → IsArmed s → HasFrames (own_words_in s) (half_map (other_area s.live) s.shape.user_frames s.shape.sectors)
lends_frames s is = half_has_frames s.shape.user_frames s.shape.sectors s.memory s.live is.sized is.few_frames

words_again : (m : MemoryParts) (dead : AreaId) (words : List ℕ)
    → words_from (first_own m dead) words ≡ words_from (first_own (with_own m dead words) dead) (own_half (with_own m dead words) dead)
words_again m A words = refl
words_again m B words = refl

-- the words of the half as it was left
pub words_after : (m : MemoryParts) (dead : AreaId) (words left : List ℕ) (first : ℕ) → first ≡ first_own m dead → words ≡ left
    → words_from first left ≡ words_from (first_own (with_own m dead words) dead) (own_half (with_own m dead words) dead)
words_after m dead words left first place same =
    ap (λ (n : ℕ). words_from n left) place
    ∙ ap (λ (ws : List ℕ). words_from (first_own m dead) ws) (sym same)
    ∙ words_again m dead words

-- and the dead words beside it
pub dead_stays : (s : PlantState) (old : LentState) (words left : List ℕ) → IsArmed s → old ≡ lent_of s → length left ≡ length old.own → words ≡ left
    → words_beside (with_own s.memory s.live words) s.live ≡ words_beside s.memory s.live
dead_stays s old words left is lent size same =
    beside_stays s (record (lent_of s) { own = words }) is
    (ap (λ (ws : List ℕ). length ws) same ∙ size ∙ ap (λ (l : LentState). length l.own) lent)

module _ (d dead : DeadState) (w words after new : WordMap) (same : d ≡ dead) (read : w ≡ words) where
  pub built_again : (own old : WordMap) → own ≡ old → after ≡ new → IsBuilt (own_map d) (plan_of d w) own after → IsBuilt (own_map dead) (plan_of dead words) old new
  built_again own old begun left is = rw (← same, ← read, ← begun, ← left) is

  pub read_again : after ≡ new → IsReadAs (own_map d) (plan_of d w) after → IsReadAs (own_map dead) (plan_of dead words) new
  read_again left is = rw (← same, ← read, ← left) is

-- what is seen is that of the records of the half as it was left
pub shown_again : (d dead : DeadState) (after new : WordMap) (tty : ℕ) (seen shown : Screen) → d ≡ dead → after ≡ new → shown ≡ seen
    → ShowsScreen (records_of (own_map d) after) tty seen → ShowsScreen (records_of (own_map dead) new) tty shown
shown_again d dead after new tty seen shown same left as_seen is = rw (← same, ← left, as_seen) is

-- there is room for the bytes in flight on what is lent
pub room_again : (d dead : DeadState) (w words : WordMap) (tty : ℕ) (device seen : Device) → d ≡ dead → w ≡ words → device ≡ seen
    → HasFlightRoom (records_left dead words) tty seen → HasFlightRoom (records_left d w) tty device
room_again d dead w words tty device seen same read as_seen is = rw (same, read, as_seen) is

-- and the tapes are those of what is lent
module _ (d dead : DeadState) (w words : WordMap) (tty : ℕ) (old before new after : List ℕ) (same : d ≡ dead) (read : w ≡ words)
    (begun : old ≡ before) (left : after ≡ new) where
  pub tape_again : new ≡ tape_put (records_left d w) tty old → after ≡ tape_put (records_left dead words) tty before
  tape_again is = rw (← same, ← read, ← begun, left) is

  pub left_again : IsTapeLeft (records_left d w) tty old new → IsTapeLeft (records_left dead words) tty before after
  left_again is = rw (← same, ← read, ← begun, left) is

-- no more stores were made of what is lent than of the plant
pub stores_again : (d dead : DeadState) (old before new after : ℕ) → d ≡ dead → old ≡ before → after ≡ new
    → new ≤ old + most_stores d.user_frames → after ≤ before + most_stores dead.user_frames
stores_again d dead old before new after same begun left is = rw (← same, ← begun, left) is
