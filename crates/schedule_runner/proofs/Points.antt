-- The points of a plant in the order of their traps, and the panics that a world lists for them.
use Rattle.std.proofs.Common.{◌≡◌, ℕ, suc, ◌+◌, ◌<◌, ◌≤◌, ◌==◌, ◌&&◌, ◌||◌, not, Bool, true, false, nat_le, if◌then◌else◌, List, [], ◌∷◌, length, map, All, Some, None, inl, inr, refl, sym, ap, ◌∙◌, arith}
use Rattle.std.specs.List.{AllPairs, list_any}
use Rattle.std.proofs.lemmas.Bool.{cases_Bool}
use Rattle.std.proofs.lemmas.Bool.Decides.{nat_tests}
use Rattle.std.proofs.lemmas.List.{length-map}
use Rattle.std.proofs.lemmas.List.Elements.{All-map}
use Rattle.std.proofs.lemmas.List.Kept.{AllPairs-cons}
use Rattle.ow_base.specs.declared.worlds.PanicLine.{PanicLine}
use Rattle.ow_base.specs.declared.worlds.Point.{Point}
use Rattle.ow_plant.specs.Points.{ArePoints, coming, entered_by, is_in, listed_for, is_ahead, is_at, is_missed, points_of}
use Rattle.ow_plant.specs.declared.points.PanicPoint.{PanicPoint}
use Rattle.record_layouts.specs.Unix.Panics.{line_for}
use Rattle.schedule_runner.specs.Histories.{AreFresh, line_of, lines_of}
use Rattle.schedule_runner.specs.Progress.{AreInOrder}

-- fresh points are in order
from_rest : (least : ℕ) (points : List PanicPoint) → 1 ≤ least → All (λ (p : PanicPoint). least ≤ p.trap) points
    → AllPairs (λ (a b : PanicPoint). a.trap < b.trap) points → All (λ (p : PanicPoint). p.entered ≡ false) points → AreInOrder least 0 points
unfolding AreInOrder
from_rest least [] real above pairs none = tt
from_rest least (p ∷ ps) real above pairs none =
    let from : least ≤ p.trap = above 0 p (omega arith) in
    let ahead : nat_le p.trap 0 ≡ false = grind (arith, nat_tests, from, real) in (
      from,
      none 0 p (omega arith) ∙ sym ahead,
      from_rest (p.trap + 1) ps (omega arith)
          (λ k q within. let below : p.trap < _ = pairs 0 (suc k) q (omega arith) (omega (arith, within)) in omega (arith, below))
          (λ i j d low high. pairs (suc i) (suc j) d (omega (arith, low)) (omega (arith, high)))
          (λ k q within. none (suc k) q (omega (arith, within))),
    )

pub fresh_in_order : (points : List PanicPoint) → AreFresh points → AreInOrder 1 0 points
fresh_in_order points fresh = from_rest 1 points (omega arith) fresh.from_one fresh.rising fresh.none_entered

-- and so are those with which a plant is armed
rising_too : (points : List Point) → AllPairs (λ (a b : Point). a.trap < b.trap) points → AllPairs (λ (a b : PanicPoint). a.trap < b.trap) (points_of points)
rising_too [] pairs = λ i j d low high. absurd (omega (arith, high))
rising_too (p ∷ ps) pairs =
    AllPairs-cons (λ (a b : PanicPoint). a.trap < b.trap) (record { trap = p.trap; store = p.store; entered = false }) (points_of ps)
    (All-map (λ (q : PanicPoint). p.trap < q.trap) (λ (q : Point). record { trap = q.trap; store = q.store; entered = false }) ps
    (λ k q within. pairs 0 (suc k) q (omega arith) (omega (arith, within))))
    (rising_too ps (λ i j d low high. pairs (suc i) (suc j) d (omega (arith, low)) (omega (arith, high))))

pub armed_fresh : (points : List Point) → ArePoints points → AreFresh (points_of points)
armed_fresh points are = record {
  few =
      let long : length (points_of points) ≡ length points = length-map points (λ (q : Point). record { trap = q.trap; store = q.store; entered = false }) in
      omega (arith, are.few, long);
  from_one = All-map (λ (q : PanicPoint). 1 ≤ q.trap) (λ (q : Point). record { trap = q.trap; store = q.store; entered = false }) points are.from_one;
  rising = rising_too points are.rising;
  none_entered = All-map (λ (q : PanicPoint). q.entered ≡ false) (λ (q : Point). record { trap = q.trap; store = q.store; entered = false }) points (λ k q within. refl);
}

-- they stay so once a trap is over that had none of them
pub passed_in_order : (least over : ℕ) (points : List PanicPoint) → AreInOrder least over points → list_any (is_in (over + 1)) points ≡ false
    → AreInOrder least (over + 1) points
unfolding AreInOrder
passed_in_order least over [] is none = tt
passed_in_order least over (p ∷ ps) is none =
    let rest : list_any (is_in (over + 1)) ps ≡ false = grind (arith, none) in
    let own : is_in (over + 1) p ≡ false = grind (arith, none) in
    (is.0, is.1 ∙ grind (arith, nat_tests, is.1, own), passed_in_order (p.trap + 1) over ps is.2 rest)

-- and once a panic is entered in a later trap
entered_over : (over trap at : ℕ) (entered : Bool) → over ≤ trap → entered ≡ nat_le at over → (entered || nat_le at trap) ≡ nat_le at trap
entered_over over trap at true more was = let late : nat_le at trap ≡ true = grind (arith, nat_tests, was, more) in sym late
entered_over over trap at false more was = refl

pub entered_in_order : (least over trap : ℕ) (points : List PanicPoint) → over ≤ trap → AreInOrder least over points
    → AreInOrder least trap (map (entered_by trap) points)
unfolding AreInOrder
entered_in_order least over trap [] more is = tt
entered_in_order least over trap (p ∷ ps) more is =
    (is.0, entered_over over trap p.trap p.entered more is.1, entered_in_order (p.trap + 1) over trap ps more is.2)

-- no panic of a trap that is over is still to come
pub none_missed : (least over : ℕ) (points : List PanicPoint) → AreInOrder least over points → list_any (is_missed (over + 1)) points ≡ false
unfolding AreInOrder
none_missed least over [] is = refl
none_missed least over (p ∷ ps) is =
    let own : is_missed (over + 1) p ≡ false = grind (arith, nat_tests, is.1) in
    rw own (none_missed (p.trap + 1) over ps is.2)

pub entered_lines : (trap : ℕ) (points : List PanicPoint) → lines_of (map (entered_by trap) points) ≡ lines_of points
entered_lines trap [] = refl
entered_lines trap (p ∷ ps) = ap (λ (lines : List PanicLine). line_of p ∷ lines) (entered_lines trap ps)

-- no line is listed for a trap of which no panic is to come
pub none_listed : (least over trap : ℕ) (points : List PanicPoint) → AreInOrder least over points → over < trap
    → list_any (is_in trap) points ≡ false → line_for (lines_of points) trap ≡ None
unfolding AreInOrder line_for
none_listed least over trap [] is past none = refl
none_listed least over trap (p ∷ ps) is past none =
    let rest : list_any (is_in trap) ps ≡ false = grind (arith, none) in
    elim (cases_Bool (p.trap == trap)) [
      | inl here ↦
          let same : p.trap ≡ trap = grind (arith, nat_tests, here) in
          let was : p.entered ≡ true = grind (arith, none, here) in
          absurd (grind (arith, nat_tests, is.1, was, same, past))
      | inr other ↦ rw other (none_listed (p.trap + 1) over trap ps is.2 past rest)
    ]

-- and for one that has a point the line of its first point is
abbrev pub line_at : (trap store : ℕ) → PanicLine
line_at trap store = record { trap = trap; store = store; damages = []; agains = [] }

pub one_listed : (trap : ℕ) (points : List PanicPoint) → list_any (is_in trap) points ≡ true
    → line_for (lines_of points) trap ≡ Some (line_at trap (listed_for trap points))
unfolding line_for
one_listed trap [] some = absurd (cc some)
one_listed trap (p ∷ ps) some = elim (cases_Bool (p.trap == trap)) [
  | inl here ↦
      let same : p.trap ≡ trap = grind (arith, nat_tests, here) in
      rw here (ap (λ (n : ℕ). Some (line_at n p.store)) same)
  | inr other ↦
      let rest : list_any (is_in trap) ps ≡ true = rw other at some in
      rw other (one_listed trap ps rest)
]

-- a trap has one point
none_later : (least over trap : ℕ) (test : PanicPoint → Bool) (points : List PanicPoint) → AreInOrder least over points → trap < least
    → list_any (λ (p : PanicPoint). (p.trap == trap) && test p) points ≡ false
unfolding AreInOrder
none_later least over trap test [] is before = refl
none_later least over trap test (p ∷ ps) is before =
    let other : (p.trap == trap) ≡ false = grind (arith, nat_tests, is.0, before) in
    rw other (none_later (p.trap + 1) over trap test ps is.2 (omega (arith, is.0, before)))

pub store_is : (least over trap made : ℕ) (points : List PanicPoint) → AreInOrder least over points
    → list_any (is_at trap made) points ≡ true → made ≡ listed_for trap points
unfolding AreInOrder
store_is least over trap made [] is some = absurd (cc some)
store_is least over trap made (p ∷ ps) is some = elim (cases_Bool (p.trap == trap)) [
  | inl here ↦
      let same : p.trap ≡ trap = grind (arith, nat_tests, here) in
      let none : list_any (is_at trap made) ps ≡ false =
      none_later (p.trap + 1) over trap (λ (q : PanicPoint). not q.entered && q.store == made) ps is.2 (omega (arith, same)) in
      let at_it : (p.store == made) ≡ true = grind (arith, some, none, here) in
      rw here (grind (arith, nat_tests, at_it))
  | inr other ↦
      let rest : list_any (is_at trap made) ps ≡ true = rw other at some in
      rw other (store_is (p.trap + 1) over trap made ps is.2 rest)
]

pub store_ahead : (least over trap made : ℕ) (points : List PanicPoint) → AreInOrder least over points
    → list_any (is_ahead trap made) points ≡ true → made ≤ listed_for trap points
unfolding AreInOrder
store_ahead least over trap made [] is some = absurd (cc some)
store_ahead least over trap made (p ∷ ps) is some = elim (cases_Bool (p.trap == trap)) [
  | inl here ↦
      let same : p.trap ≡ trap = grind (arith, nat_tests, here) in
      let none : list_any (is_ahead trap made) ps ≡ false =
      none_later (p.trap + 1) over trap (λ (q : PanicPoint). not q.entered && nat_le made q.store) ps is.2 (omega (arith, same)) in
      let at_it : nat_le made p.store ≡ true = grind (arith, some, none, here) in
      rw here (grind (arith, nat_tests, at_it))
  | inr other ↦
      let rest : list_any (is_ahead trap made) ps ≡ true = rw other at some in
      rw other (store_ahead (p.trap + 1) over trap made ps is.2 rest)
]

-- fewer panics are to come once one is entered
one_if : (entered late : Bool) → (if entered || late then 0 else 1) ≤ (if entered then 0 else 1)
one_if true late = omega arith
one_if false true = omega arith
one_if false false = omega arith

pub no_more_come : (trap : ℕ) (points : List PanicPoint) → coming (map (entered_by trap) points) ≤ coming points
no_more_come trap [] = omega arith
no_more_come trap (p ∷ ps) = omega (arith, one_if p.entered (nat_le p.trap trap), no_more_come trap ps)

pub fewer_come : (trap : ℕ) (points : List PanicPoint) → list_any (is_in trap) points ≡ true
    → coming (map (entered_by trap) points) + 1 ≤ coming points
fewer_come trap [] some = absurd (cc some)
fewer_come trap (p ∷ ps) some = elim (cases_Bool (is_in trap p)) [
  | inl here ↦
      let own : p.entered ≡ false = grind (arith, here) in
      let same : p.trap ≡ trap = grind (arith, nat_tests, here) in
      let by : nat_le p.trap trap ≡ true = grind (arith, nat_tests, same) in
      rw (own, by) (omega (arith, no_more_come trap ps))
  | inr other ↦
      let rest : list_any (is_in trap) ps ≡ true = grind (arith, some, other) in
      omega (arith, one_if p.entered (nat_le p.trap trap), fewer_come trap ps rest)
]

pub as_many : (points : List PanicPoint) → coming points ≤ length points
as_many [] = omega arith
as_many (p ∷ ps) = elim (cases_Bool p.entered) [
  | inl was ↦ rw was (omega (arith, as_many ps))
  | inr not_yet ↦ rw not_yet (omega (arith, as_many ps))
]

-- no panic is to come any more in a trap of which one was entered
pub none_again : (trap : ℕ) (points : List PanicPoint) → list_any (is_in trap) (map (entered_by trap) points) ≡ false
none_again trap [] = refl
none_again trap (p ∷ ps) = elim (cases_Bool (p.trap == trap)) [
  | inl here ↦
      let by : nat_le p.trap trap ≡ true = grind (arith, nat_tests, here) in
      let gone : (p.entered || nat_le p.trap trap) ≡ true = grind (arith, by) in
      rw (here, gone) (none_again trap ps)
  | inr other ↦ rw other (none_again trap ps)
]
