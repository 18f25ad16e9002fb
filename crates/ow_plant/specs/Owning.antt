-- What a plant lends after a panic: what the dead kernel left, and what another one may change.
use Rattle.std.specs.Prelude.{◌≡◌, ◌==◌, Bool, if◌then◌else◌, length, min, take, None}
use Rattle.ow_base.specs.Sv32.{WordMap}
use Rattle.panic_handover.specs.HandOver.{hand_over_in}
use Rattle.phys_memory.specs.Halves.{first_own, words_from}
use Rattle.phys_memory.specs.Reading.{boot_words}
use Rattle.ow_plant.specs.Dead.{DeadState}
use Rattle.ow_plant.specs.Lent.{lent_refuses}
use Rattle.ow_plant.specs.State.{PlantState, tty_of}
use Rattle.ow_plant.specs.declared.dead_half.Dead.{Dead}
use Rattle.ow_plant.specs.declared.own_half.Own.{Own}
use Rattle.ow_plant.specs.declared.own_half.OwnPlace.{OwnPlace}

-- what is left beside the words that are read
abbrev pub left_in : Dead → DeadState
left_in d = record {
  area = d.area;
  user_frames = min d.user_frames 384;
  sectors = d.sectors;
  sector_words = λ sector word. None;
  counts = λ tty. if tty == 0 then d.count0 else d.count1;
  handover = hand_over_in (take 40 (boot_words d.words));
}

-- what the dead kernel of a plant left beside the words of memory; there is no disk yet
abbrev pub left_by : PlantState → DeadState
left_by s = record {
  area = s.live;
  user_frames = s.shape.user_frames;
  sectors = s.shape.sectors;
  sector_words = λ sector word. None;
  counts = λ tty. length (tty_of s tty).tape;
  handover = hand_over_in (take 40 s.memory.boot);
}

-- a store is refused
abbrev pub refuses_own : Own → Bool
refuses_own own = lent_refuses own.place.points.now own.place.trap own.lent.now

-- the words of the own half
abbrev pub own_words : Own → WordMap
own_words own = words_from own.place.first own.lent.now.own

-- where the own half of a plant lies, and the points of its running trap
pub record IsPlaceIn (s : PlantState) (place : OwnPlace) : Type 0 where
  pub points : place.points.now ≡ s.points
  pub trap : place.trap ≡ s.traps
  pub first : place.first ≡ first_own s.memory s.live
