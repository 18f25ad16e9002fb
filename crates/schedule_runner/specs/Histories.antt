-- Runs with panics on a plant: the world that is run, and what the entries of its history stand for.
use Rattle.std.specs.Prelude.{◌<◌, ◌≤◌, ◌≡◌, ◌==◌, ◌&&◌, false, if◌then◌else◌, List, [], ◌∷◌, All, bit_xor, length, map, take, Option, Some, None, option_map}
use Rattle.std.specs.List.{AllPairs}
use Rattle.ow_base.specs.Images.{Image}
use Rattle.ow_base.specs.Sv32.{WordMap}
use Rattle.ow_base.specs.declared.machine.Came.TheVariants as came
use Rattle.ow_base.specs.declared.worlds.Hurt.{Hurt}
use Rattle.ow_base.specs.declared.worlds.Load.{Load}
use Rattle.ow_base.specs.declared.worlds.PanicLine.{PanicLine}
use Rattle.ow_base.specs.declared.worlds.PanicRecord.{PanicRecord}
use Rattle.ow_base.specs.declared.worlds.World.{World}
use Rattle.dead_reader.specs.Left.{told_by}
use Rattle.ow_plant.specs.Images.{entry_image}
use Rattle.ow_plant.specs.State.{PlantState}
use Rattle.ow_plant.specs.declared.points.PanicPoint.{PanicPoint}
use Rattle.panic_handover.specs.HandOver.{hand_over_in, zero_bank}
use Rattle.panic_handover.specs.declared.hand_over.HandOver.{HandOver}
use Rattle.record_layouts.specs.Left.{HandedOver}
use Rattle.record_layouts.specs.LeftImages.{unix_left, wounds_of}
use Rattle.record_layouts.specs.Unix.Panics.{Images}

-- the panic that a world lists for a point of a plant: nothing is damaged, and no store of a revival is refused
abbrev pub line_of : PanicPoint → PanicLine
line_of point = record { trap = point.trap; store = point.store; damages = []; agains = [] }

abbrev pub lines_of : List PanicPoint → List PanicLine
lines_of points = map line_of points

-- the world that a plant with these points runs; nothing is typed yet
abbrev pub world_of : Load → List PanicPoint → World
world_of load points = record { load = load; typed0 = []; typed1 = []; panics = lines_of points }

-- the points with which a plant is armed: at most 32, each in a trap of its own, in the order of the traps, none at boot,
-- and none was entered
pub record AreFresh (points : List PanicPoint) : Type 0 where
  pub few : length points ≤ 32
  pub from_one : All (λ (p : PanicPoint). 1 ≤ p.trap) points
  pub rising : AllPairs (λ (a b : PanicPoint). a.trap < b.trap) points
  pub none_entered : All (λ (p : PanicPoint). p.entered ≡ false) points

-- what a panic handed over, by the first words of its memory; where these are no hand-over, that of a trap 0
abbrev pub handed_by : Option HandOver → HandedOver
handed_by (Some h) = told_by h
handed_by None = record { trap = 0; pid = 0; came = came.Kernel; bank = zero_bank }

abbrev pub handed_in : PanicRecord → HandedOver
handed_in r = handed_by (hand_over_in (take 40 r.image))

-- words in one of which these bits have changed, and in several, one after the other
abbrev pub with_hurt : Hurt → WordMap → WordMap
with_hurt hurt words frame word =
    if hurt.frame == frame && hurt.word == word then option_map (λ value. bit_xor value hurt.mask) (words frame word) else words frame word

unfoldable pub with_hurts : List Hurt → WordMap → WordMap
with_hurts [] words = words
with_hurts (hurt ∷ hurts) words = with_hurts hurts (with_hurt hurt words)

-- an image once these words of it are hurt
abbrev pub hurt_image : Image → List Hurt → Image
hurt_image i hurts = record i { words = with_hurts hurts i.words }

-- What the entries of a plant's history stand for: the state that each left, and what its damage wounds of it. No typed
-- byte had arrived, as nothing is typed yet.
abbrev pub images_of : PlantState → Images
images_of s = record {
  state = λ r. unix_left (entry_image s r) (handed_in r);
  wounds = λ r. wounds_of (entry_image s r) (hurt_image (entry_image s r) r.damage.items) (λ tty. 0);
}
