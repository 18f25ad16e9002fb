-- What a world gives to boot.
use Rattle.std.proofs.Common.{◌≡◌, ℕ, ◌≤◌, List, [], ◌∷◌, length, All, sym, subst, inl, inr, false}
use Rattle.std.proofs.lemmas.Bool.{cases_lt}
use Rattle.std.proofs.lemmas.List.Elements.{All-cons, All-map, All-nil}
use Rattle.std.proofs.lemmas.Option.{slice_get_past}
use Rattle.ow_base.specs.World.{AreTexts, IsProgram, IsStart, IsWorld}
use Rattle.ow_base.specs.declared.worlds.Point.{Point}
use Rattle.ow_base.specs.declared.worlds.Program.{Program}
use Rattle.ow_base.specs.declared.worlds.Start.{Start as Started}
use Rattle.ow_base.specs.declared.worlds.World.{World}
use Rattle.ow_plant.specs.Points.{ArePoints, points_of}
use Rattle.ow_plant.specs.State.{PlantState}
use Rattle.ow_plant.specs.declared.points.PanicPoint.{PanicPoint}
use Rattle.kernel_traps.specs.Boot.{IsBootable, IsLoadable, IsStartable}
use Rattle.kernel_traps.specs.BootStores.{HasNoneAtBoot}

-- what each text gives holds of each item
texts_all : {A : Type 0} (Is : List ℕ → A → Type 0) (P : A → Type 0) → ((text : List ℕ) (item : A) → Is text item → P item)
    → (text : List ℕ) (items : List A) → AreTexts Is text items → All P items
unfolding AreTexts
texts_all Is P gives text [] are = All-nil P
texts_all Is P gives text (item ∷ items) are = All-cons P item items (gives are.0 item are.3) (texts_all Is P gives are.1 items are.4)

loadable : (text : List ℕ) (program : Program) → IsProgram text program → IsLoadable program
loadable text program is = record { some_code = is.some_code; code = is.code.longest; values = is.values.longest }

startable : (programs : List Program) (text : List ℕ) (start : Started) → IsStart programs text start → IsStartable programs start
startable programs text start is = record {
  program = elim (cases_lt start.program (length programs)) [
    | inl there ↦ there
    | inr past ↦ absurd (cc (slice_get_past programs start.program past, is.found))
  ];
  tty = is.tty;
}

pub world_boots : (text : List ℕ) (world : World) → IsWorld text world → IsBootable world.load
world_boots text world is = record {
  some_start = is.some_start;
  most_starts = is.most_starts;
  starts = texts_all (IsStart world.load.programs) (IsStartable world.load.programs) (startable world.load.programs) is.starts_text world.load.starts is.starts;
  programs = texts_all IsProgram IsLoadable loadable is.programs_text world.load.programs is.programs;
  frames = is.frames;
  most_frames = is.shape.most_frames;
}

-- a plant that is armed with points has none at boot
pub none_at_boot : (points : List Point) (s : PlantState) → ArePoints points → s.points ≡ points_of points → HasNoneAtBoot s
none_at_boot points s are is = record {
  from_one = subst (λ (ps : List PanicPoint). All (λ (p : PanicPoint). 1 ≤ p.trap) ps) (sym is)
      (All-map (λ (p : PanicPoint). 1 ≤ p.trap) (λ (p : Point). record { trap = p.trap; store = p.store; entered = false }) points are.from_one);
}
