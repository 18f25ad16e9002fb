-- The points of a world's panics, and the world that a plant with these points runs.
use Rattle.std.proofs.Common.{◌≡◌, ◌∙◌, ◌≤◌, ◌<◌, ℕ, zero, suc, List, [], ◌∷◌, length, map, refl, sym, ap, subst, arith}
use Rattle.std.specs.Prelude.{slice_index_or, All}
use Rattle.std.specs.List.{AllPairs}
use Rattle.std.proofs.lemmas.List.{length-map}
use Rattle.std.proofs.lemmas.List.Elements.{All-cons, All-head, All-tail, All-map, All-nil}
use Rattle.ow_base.specs.World.{AreTexts, IsPanic, IsWorld}
use Rattle.ow_base.specs.declared.worlds.PanicLine.{PanicLine}
use Rattle.ow_base.specs.declared.worlds.Point.{Point}
use Rattle.ow_base.specs.declared.worlds.World.{World}
use Rattle.ow_plant.specs.Points.{ArePoints, points_of}
use Rattle.ow_plant.specs.State.{IsReady, PlantState}
use Rattle.ow_plant.specs.declared.points.PanicPoint.{PanicPoint}
use Rattle.schedule_runner.proofs.Points.{armed_fresh}
use Rattle.world_file.specs.RunLog.{RunFates, no_fates}
use Rattle.world_file.specs.WorldRefusals.{IsBuilt}
use Rattle.schedule_runner.specs.Histories.{AreFresh, line_of, lines_of, world_of}
use Rattle.otherworld.specs.Arming.{IsArmedFor, point_of}

module _ {X Y : Type 0} (f : X → Y) where
  at_map : (xs : List X) (k : ℕ) (d : X) → slice_index_or (map f xs) k (f d) ≡ f (slice_index_or xs k d)
  at_map [] k d = refl
  at_map (x ∷ xs) zero d = refl
  at_map (x ∷ xs) (suc k) d = at_map xs k d

  -- what holds of the images of each two holds of them
  pairs_before : (R : Y → Y → Type 0) (xs : List X) → AllPairs R (map f xs) → AllPairs (λ a b. R (f a) (f b)) xs
  pairs_before R xs all i j d less in' =
      subst (λ y. R (f (slice_index_or xs i d)) y) (at_map xs j d)
      (subst (λ y. R y (slice_index_or (map f xs) j (f d))) (at_map xs i d)
      (all i j (f d) less (omega (arith, length-map xs f, in'))))

-- the panic of a point at which nothing is damaged
abbrev line_at : Point → PanicLine
line_at point = record { trap = point.trap; store = point.store; damages = []; agains = [] }

bare : (panic : PanicLine) → panic.damages ≡ [] → panic.agains ≡ [] → line_at (point_of panic) ≡ panic
bare panic no_damages no_agains =
    ap (λ damages. record { trap = panic.trap; store = panic.store; damages = damages; agains = [] }) (sym no_damages)
    ∙ ap (λ agains. record { trap = panic.trap; store = panic.store; damages = panic.damages; agains = agains }) (sym no_agains)

lines_back : (panics : List PanicLine) → All (λ (panic : PanicLine). panic.damages ≡ []) panics → All (λ (panic : PanicLine). panic.agains ≡ []) panics
    → map line_at (map point_of panics) ≡ panics
lines_back [] damages agains = refl
lines_back (panic ∷ panics) damages agains =
    let first = bare panic (All-head (λ (p : PanicLine). p.damages ≡ []) panic panics damages) (All-head (λ (p : PanicLine). p.agains ≡ []) panic panics agains) in
    let rest = lines_back panics (All-tail (λ (p : PanicLine). p.damages ≡ []) panic panics damages) (All-tail (λ (p : PanicLine). p.agains ≡ []) panic panics agains) in
    ap (λ p. p ∷ map line_at (map point_of panics)) first ∙ ap (λ ps. panic ∷ ps) rest

lines_of_points : (points : List Point) → lines_of (points_of points) ≡ map line_at points
lines_of_points [] = refl
lines_of_points (point ∷ points) = ap (λ lines. line_at point ∷ lines) (lines_of_points points)

-- the traps of panics are numbered from 1
traps_from_one : (frames : ℕ) (text : List ℕ) (panics : List PanicLine) → AreTexts (IsPanic frames) text panics → All (λ (panic : PanicLine). 1 ≤ panic.trap) panics
unfolding AreTexts
traps_from_one frames text [] texts = All-nil (λ (panic : PanicLine). 1 ≤ panic.trap)
traps_from_one frames text (panic ∷ panics) texts =
    All-cons (λ (p : PanicLine). 1 ≤ p.trap) panic panics texts.3.first_trap (traps_from_one frames texts.1 panics texts.4)

module _ (input : List ℕ) (world : World) (is : IsWorld input world) (built : IsBuilt world) where
  pub lines_are : lines_of (points_of (map point_of world.panics)) ≡ world.panics
  lines_are = lines_of_points (map point_of world.panics) ∙ lines_back world.panics built.no_damages built.no_agains

  from_one : All (λ (point : Point). 1 ≤ point.trap) (map point_of world.panics)
  from_one = All-map (λ (point : Point). 1 ≤ point.trap) point_of world.panics (traps_from_one world.load.shape.user_frames is.panics_text world.panics is.panics)

  -- a plant may be armed with the points of the panics
  pub points_are : ArePoints (map point_of world.panics)
  points_are = record {
    few = omega (arith, length-map world.panics point_of, is.most_panics);
    from_one = from_one;
    rising = pairs_before line_at (λ (a b : PanicLine). a.trap < b.trap) (map point_of world.panics)
        (subst (λ lines. AllPairs (λ (a b : PanicLine). a.trap < b.trap) lines) (sym (lines_back world.panics built.no_damages built.no_agains)) is.traps);
    no_damages = All-map (λ (point : Point). point.damages.items ≡ []) point_of world.panics (λ k d in'. refl);
    no_agains = All-map (λ (point : Point). point.agains.items ≡ []) point_of world.panics (λ k d in'. refl);
  }

  -- one that is armed with them is armed for the world
  pub armed_for : (s : PlantState) (log : RunFates) → IsReady world.load.shape s → s.points ≡ points_of (map point_of world.panics) → log ≡ no_fates (length world.panics)
      → IsArmedFor world log s
  armed_for s log ready points none = record {
    ready = ready;
    fresh = subst AreFresh (sym points) (armed_fresh (map point_of world.panics) points_are);
    points = ap lines_of points ∙ lines_are;
    none_told = none;
  }

-- a plant whose points are the panics of a world of the built forms runs this world
pub world_is : (world : World) (points : List PanicPoint) → IsBuilt world → lines_of points ≡ world.panics → world_of world.load points ≡ world
world_is world points built lines =
    ap (λ panics. record { load = world.load; typed0 = []; typed1 = []; panics = panics }) lines
    ∙ ap (λ typed. record { load = world.load; typed0 = typed; typed1 = []; panics = world.panics }) (sym built.no_typed0)
    ∙ ap (λ typed. record { load = world.load; typed0 = world.typed0; typed1 = typed; panics = world.panics }) (sym built.no_typed1)

-- there is room for the panics of a plant that is armed
pub has_room : (world : World) (log : RunFates) (s : PlantState) → IsArmedFor world log s → length s.points ≤ log.room
has_room world log s armed =
    omega (arith, length-map s.points line_of, ap (λ (lines : List PanicLine). length lines) armed.points, ap (λ (l : RunFates). l.room) armed.none_told)
