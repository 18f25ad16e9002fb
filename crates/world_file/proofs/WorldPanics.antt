-- Panic lines, and the line `end` behind them, are read.
use Rattle.std.proofs.Common.{◌≡◌, ℕ, ◌-◌, ◌^◌, ◌<◌, ◌≤◌, ◌⊎◌, inl, inr, false, ◌||◌, List, [], ◌∷◌, ◌++◌, length, get_or, Some, None, codes, decimal, arith, ap, ◌∙◌, sym, refl, subst, append_assoc, append-nil, length-append}
use Rattle.std.specs.List.{All, AllPairs, AllByRecursion, flat_map}
use Rattle.std.proofs.lemmas.Bool.{cases_lt}
use Rattle.std.proofs.lemmas.List.{get_or_append_left, get_or_at}
use Rattle.std.proofs.lemmas.List.Elements.{recursion_from_All}
use Rattle.std.proofs.lemmas.Option.{slice_get-get_or}
use Rattle.ow_base.specs.Lines.{line}
use Rattle.ow_base.specs.World.{AreTexts, IsPanic, damage_line, again_line}
use Rattle.ow_base.specs.declared.machine.Shape.{Shape}
use Rattle.ow_base.specs.declared.worlds.World.{World}
use Rattle.ow_base.specs.declared.worlds.PanicLine.{PanicLine}
use Rattle.ow_base.specs.declared.worlds.Program.{Program}
use Rattle.ow_base.specs.declared.worlds.Start.{Start as Started}
use Rattle.world_file.specs.declared.key.Key.{Key}
use Rattle.world_file.specs.declared.key.Key.TheVariants.{Start, Panic}
use Rattle.world_file.specs.declared.reasons.Place.TheVariants.{Free}
use Rattle.world_file.specs.WorldLines.{Line, tokens, pieces, key, key_of}
use Rattle.world_file.specs.WorldFacts.{Facts, bare_panic}
use Rattle.world_file.specs.WorldReasons.{panic_place, end_place, counted_place, is_barred, is_taken, trap_of_found, last_trap}
use Rattle.world_file.specs.WorldReading.{with_line, world_of}
use Rattle.world_file.proofs.WorldNumbers.{number_of_accepts}
use Rattle.world_file.proofs.WorldFields.{free_decimal, le_is_true, le_is_false, lt_is_true}
use Rattle.world_file.proofs.WorldSpelled.{three_words, some_number}
use Rattle.world_file.proofs.WorldPassed.{IsPassed, Reads, reads_line, reads_end}
use Rattle.world_file.proofs.PanicsUnique.{panic_text, panic_with, free_panic}

-- what is said where a panic line may come
abbrev pub before_panic : Key → Shape → List Program → List Started → List PanicLine → Facts
before_panic last shape programs starts panics = record { last = Some last; shape = shape; finished = programs; opened = None; starts = starts; panics = panics }

-- what is said behind a panic line
abbrev pub at_panic : Shape → List Program → List Started → List PanicLine → Facts
at_panic shape programs starts panics = before_panic Panic shape programs starts panics

-- a panic line and the line `end` may stand behind a line of this key
pub record EndsStarts (k : Key) : Type 0 where
  pub panics : (count : ℕ) → panic_place count (Some k) ≡ counted_place 32 count
  pub ends : end_place (Some k) ≡ Free

pub start_ends : EndsStarts Start
start_ends = record { panics = λ c. refl; ends = refl }

panic_ends : EndsStarts Panic
panic_ends = record { panics = λ c. refl; ends = refl }

-- nothing is damaged, and no store is refused again
abbrev pub IsBare : PanicLine → Type 0
IsBare panic = (panic.damages ≡ []) × (panic.agains ≡ [])

bare_by : (panics : List PanicLine) → AllByRecursion (λ (p : PanicLine). p.damages ≡ []) panics → AllByRecursion (λ (p : PanicLine). p.agains ≡ []) panics → AllByRecursion IsBare panics
bare_by [] damages agains = tt
bare_by (p ∷ panics) damages agains = ((damages.0, agains.0), bare_by panics damages.1 agains.1)

pub all_bare : (panics : List PanicLine) → All (λ (p : PanicLine). p.damages ≡ []) panics → All (λ (p : PanicLine). p.agains ≡ []) panics → AllByRecursion IsBare panics
all_bare panics damages agains =
    bare_by panics (recursion_from_All (λ (p : PanicLine). p.damages ≡ []) panics damages) (recursion_from_All (λ (p : PanicLine). p.agains ≡ []) panics agains)

-- the traps rise
abbrev pub AreRising : List PanicLine → Type 0
AreRising panics = AllPairs (λ (a b : PanicLine). a.trap < b.trap) panics

last_trap_is : (panics : List PanicLine) (d : PanicLine) → 1 ≤ length panics → last_trap panics ≡ (get_or panics (length panics - 1) d).trap
last_trap_is panics d some = ap trap_of_found (slice_get-get_or panics (length panics - 1) d (omega arith))

-- none is above the last
pub below_last : (panics : List PanicLine) (k : ℕ) (d : PanicLine) → AreRising panics → k < length panics → (get_or panics k d).trap ≤ last_trap panics
below_last panics k d rising low =
    by_place (last_trap_is panics d (omega arith)) (cases_lt k (length panics - 1))
  where
    by_place : last_trap panics ≡ (get_or panics (length panics - 1) d).trap → (k < length panics - 1) ⊎ (length panics - 1 ≤ k) → (get_or panics k d).trap ≤ last_trap panics
    by_place last (inl below) = omega (arith, last, rising k (length panics - 1) d below (omega arith))
    by_place last (inr above) = let same : k ≡ length panics - 1 = omega (arith, above, low) in omega (arith, last, ap (λ n. (get_or panics n d).trap) same)

-- the last is below the next
pub above_last : (before : List PanicLine) (p : PanicLine) (rest : List PanicLine) → AreRising (before ++ p ∷ rest) → 1 ≤ p.trap → last_trap before < p.trap
above_last [] p rest rising first = first
above_last (b ∷ before) p rest rising first =
    let front = b ∷ before in
    let n = length front in
    let here = get_or_at front p rest p n refl in
    let there = get_or_append_left front (p ∷ rest) p (n - 1) (omega arith) in
    let less = rising (n - 1) n p (omega arith) (omega (arith, length-append front (p ∷ rest))) in
    omega (arith, less, last_trap_is front p (omega arith), ap (λ (q : PanicLine). q.trap) here, ap (λ (q : PanicLine). q.trap) there)

-- a panic that may come behind others
pub record MayCome (before : List PanicLine) (trap store : ℕ) : Type 0 where
  pub some_trap : 1 ≤ trap
  pub small_trap : trap < 2 ^ 32
  pub small_store : store < 2 ^ 32
  pub few : length before < 32
  pub above : last_trap before < trap

panic_passed : (k : Key) (shape : Shape) (programs : List Program) (starts : List Started) (before : List PanicLine) (l : Line) (trap store : ℕ) → EndsStarts k
    → tokens l ≡ codes "panic" ∷ decimal trap ∷ decimal store ∷ [] → MayCome before trap store → IsPassed (before_panic k shape programs starts before) l
unfolding key_of
panic_passed k shape programs starts before l trap store ends w may =
    let key : key l ≡ Panic = rw w refl in
    let place = ends.panics (length before) in
    let below = lt_is_true (length before) 32 may.few in
    let some_trap = some_number trap may.small_trap in
    let some_store = some_number store may.small_store in
    let trap_read = number_of_accepts trap may.small_trap in
    let store_read = number_of_accepts store may.small_store in
    let least_trap = le_is_true 1 trap may.some_trap in
    let most_trap = le_is_true trap 4294967295 (omega (arith, may.small_trap)) in
    let least_store = le_is_true 0 store (omega arith) in
    let most_store = le_is_true store 4294967295 (omega (arith, may.small_store)) in
    let rises = le_is_false trap (last_trap before) may.above in
    record {
      first = refl;
      built = rw key refl;
      word = rw (key, place, below) refl;
      count = rw (key, place, below) refl;
      fields = rw (key, w, some_trap, some_store) refl;
      number = rw (key, w, trap_read, store_read, least_trap, most_trap, least_store, most_store) refl;
      name = rw key refl;
      hex = rw key refl;
      once = rw key refl;
      program = rw key refl;
      order = rw (key, w, trap_read) rises;
      frames = rw key refl;
    }

pub panic_said : (k : Key) (shape : Shape) (programs : List Program) (starts : List Started) (before : List PanicLine) (l : Line) (trap store : ℕ)
    → tokens l ≡ codes "panic" ∷ decimal trap ∷ decimal store ∷ [] → trap < 2 ^ 32 → store < 2 ^ 32
    → with_line (before_panic k shape programs starts before) l ≡ at_panic shape programs starts (before ++ bare_panic trap store ∷ [])
unfolding with_line key_of
panic_said k shape programs starts before l trap store w small_trap small_store =
    let key : key l ≡ Panic = rw w refl in
    let trap_read = number_of_accepts trap small_trap in
    let store_read = number_of_accepts store small_store in
    rw (key, w, trap_read, store_read) refl

-- a panic line
panic_read : (k : Key) (shape : Shape) (programs : List Program) (starts : List Started) (before : List PanicLine) (trap store : ℕ) (rest : List ℕ) (world : World) → EndsStarts k → MayCome before trap store
    → Reads (at_panic shape programs starts (before ++ bare_panic trap store ∷ [])) rest world → Reads (before_panic k shape programs starts before) (line (panic_text trap store) ++ rest) world
panic_read k shape programs starts before trap store rest world ends may more =
    let l = panic_text trap store in
    let w = three_words (codes "panic") (decimal trap) (decimal store) refl (free_decimal 32 trap (omega arith) may.small_trap) (free_decimal 32 store (omega arith) may.small_store) in
    let said = panic_said k shape programs starts before l trap store w may.small_trap may.small_store in
    reads_line (before_panic k shape programs starts before) l rest world (free_panic trap store may.small_trap may.small_store) (panic_passed k shape programs starts before l trap store ends w may) refl
    (subst (λ f. Reads f rest world) (sym said) more)

end_passed : (k : Key) (shape : Shape) (programs : List Program) (starts : List Started) (panics : List PanicLine) → EndsStarts k → IsPassed (before_panic k shape programs starts panics) (codes "end")
unfolding tokens pieces key_of
end_passed k shape programs starts panics ends = record {
  first = refl;
  built = refl;
  word = ap is_barred ends.ends;
  count = ap (λ place. is_taken place || false) ends.ends;
  fields = refl;
  number = refl;
  name = refl;
  hex = refl;
  once = refl;
  program = refl;
  order = refl;
  frames = refl;
}

-- behind the starts and some panics, other panics and the end
pub panics_read : (k : Key) (shape : Shape) (programs : List Program) (starts : List Started) (before : List PanicLine) (text : List ℕ) (panics : List PanicLine) → EndsStarts k
    → AreTexts (IsPanic shape.user_frames) text panics → AllByRecursion IsBare panics → length (before ++ panics) ≤ 32 → AreRising (before ++ panics)
    → Reads (before_panic k shape programs starts before) (text ++ line (codes "end")) (world_of (at_panic shape programs starts (before ++ panics)))
unfolding AreTexts
panics_read k shape programs starts before text [] ends texts bare few rising =
    let f = before_panic k shape programs starts before in
    subst (λ t. Reads f (t ++ line (codes "end")) (world_of (at_panic shape programs starts (before ++ [])))) (sym texts)
    (subst (λ ps. Reads f (line (codes "end")) (world_of (at_panic shape programs starts ps))) (sym (append-nil before))
    (reads_end f (end_passed k shape programs starts before ends)))
panics_read k shape programs starts before text (p ∷ panics) ends texts bare few rising =
    let others = texts.1 in
    let is = texts.3 in
    let end = line (codes "end") in
    let here = line (panic_text p.trap p.store) in
    let said = world_of (at_panic shape programs starts (before ++ p ∷ panics)) in
    let joined : (before ++ p ∷ []) ++ panics ≡ before ++ p ∷ panics = append_assoc before (p ∷ []) panics in
    let more = panics_read Panic shape programs starts (before ++ p ∷ []) others panics panic_ends texts.4 bare.1 (subst (λ (ps : List PanicLine). length ps ≤ 32) (sym joined) few) (subst AreRising (sym joined) rising) in
    let ended = subst (λ ps. Reads (at_panic shape programs starts (before ++ p ∷ [])) (others ++ end) (world_of (at_panic shape programs starts ps))) joined more in
    let same : p ≡ bare_panic p.trap p.store = ap (λ ds. panic_with p.trap p.store ds p.agains) bare.0.0 ∙ ap (λ ss. panic_with p.trap p.store [] ss) bare.0.1 in
    let may : MayCome before p.trap p.store = record {
      some_trap = is.first_trap;
      small_trap = is.last_trap;
      small_store = is.store;
      few = omega (arith, few, length-append before (p ∷ panics));
      above = above_last before p panics rising is.first_trap;
    } in
    let read = panic_read k shape programs starts before p.trap p.store (others ++ end) said ends may
    (subst (λ q. Reads (at_panic shape programs starts (before ++ q ∷ [])) (others ++ end) said) same ended) in
    let front : texts.0 ≡ here =
    is.spelled ∙ ap (λ ds. here ++ (flat_map damage_line ds ++ flat_map again_line p.agains)) bare.0.0
    ∙ ap (λ ss. here ++ flat_map again_line ss) bare.0.1 ∙ append-nil here in
    let spelled : here ++ (others ++ end) ≡ text ++ end =
    sym (ap (λ t. t ++ end) (texts.2 ∙ ap (λ t. t ++ others) front) ∙ append_assoc here others end) in
    subst (λ t. Reads (before_panic k shape programs starts before) t said) spelled read
