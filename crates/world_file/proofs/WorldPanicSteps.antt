-- Panic lines, line by line, from the lines that were read.
use Rattle.std.proofs.Common.{◌≡◌, ℕ, ◌^◌, ◌<◌, ◌≤◌, false, not, nat_le, List, [], ◌∷◌, ◌++◌, length, unwrap_or, codes, decimal, arith, ap, ◌∙◌, sym, refl, subst, append_assoc, append-nil, length-append}
use Rattle.std.specs.List.{AllPairs}
use Rattle.std.proofs.lemmas.List.Elements.{All-push, All-from_recursion}
use Rattle.std.proofs.lemmas.List.Quantifiers.{all_pairs_push}
use Rattle.ow_base.specs.Lines.{line}
use Rattle.ow_base.specs.World.{AreTexts, IsPanic, IsDamage, AreApart}
use Rattle.ow_base.specs.declared.machine.Shape.{Shape}
use Rattle.ow_base.specs.declared.worlds.PanicLine.{PanicLine}
use Rattle.ow_base.specs.declared.worlds.Program.{Program}
use Rattle.ow_base.specs.declared.worlds.Start.{Start as Started}
use Rattle.world_file.specs.declared.key.Key.{Key}
use Rattle.world_file.specs.declared.key.Key.TheVariants.{Panic}
use Rattle.world_file.specs.WorldLines.{Line, tokens, token_at, key, number_of, number_at, is_number}
use Rattle.world_file.specs.WorldFacts.{Facts, bare_panic}
use Rattle.world_file.specs.WorldReasons.{has_no_number, does_not_rise, last_trap}
use Rattle.world_file.specs.WorldReading.{with_line}
use Rattle.world_file.proofs.WorldNumbers.{number_of_accepts}
use Rattle.world_file.proofs.WorldFields.{le_false}
use Rattle.world_file.proofs.WorldSpelled.{spelled_three}
use Rattle.world_file.proofs.WorldPassed.{IsPassed}
use Rattle.world_file.proofs.WorldKeys.{neither, not_false, first_word, words_two, number_found}
use Rattle.world_file.proofs.PanicsUnique.{panic_text}
use Rattle.world_file.proofs.WorldPanics.{before_panic, at_panic, MayCome, below_last, panic_said}
use Rattle.world_file.proofs.WorldSaid.{AreStarted, ArePanics, SoFar, field_count}
use Rattle.world_file.proofs.WorldSaid.SoFar.{ToPanic}
use Rattle.world_file.proofs.WorldBlockSteps.{texts_more}

no_pairs : {A : Type 0} (R : A → A → Type 0) → AllPairs R []
no_pairs R i j d low high = absurd (omega arith)

-- no panic yet
pub none_panicked : (text : List ℕ) (shape : Shape) (programs : List Program) (starts : List Started) → AreStarted text shape programs starts → ArePanics text shape programs starts []
unfolding AreTexts
none_panicked text shape programs starts started = record {
  before = text;
  started = started;
  panics_text = [];
  each = refl;
  few = omega arith;
  rising = no_pairs (λ (a b : PanicLine). a.trap < b.trap);
  no_damages = All-from_recursion (λ (p : PanicLine). p.damages ≡ []) [] tt;
  no_agains = All-from_recursion (λ (p : PanicLine). p.agains ≡ []) [] tt;
  spelled = sym (append-nil text);
}

-- the panic that a line says
record IsPanicLine (before : List PanicLine) (l : Line) : Type 0 where
  trap : ℕ
  store : ℕ
  words : tokens l ≡ codes "panic" ∷ decimal trap ∷ decimal store ∷ []
  may : MayCome before trap store

panic_found : (k : Key) (shape : Shape) (programs : List Program) (starts : List Started) (before : List PanicLine) (l : Line) → length before < 32 → key l ≡ Panic
    → IsPassed (before_panic k shape programs starts before) l → IsPanicLine before l
panic_found k shape programs starts before l few key_is p =
    let f = before_panic k shape programs starts before in
    let first = token_at 1 l in
    let second = token_at 2 l in
    let w = words_two l (codes "panic") (first_word l Panic key_is) (field_count f l Panic key_is p) in
    let numbers = neither (not (is_number 1 4294967295 first)) (not (is_number 0 4294967295 second)) (subst (λ k. has_no_number k l ≡ false) key_is p.number) in
    let trap = number_found 1 4294967295 first (not_false (is_number 1 4294967295 first) numbers.0) in
    let store = number_found 0 4294967295 second (not_false (is_number 0 4294967295 second) numbers.1) in
    let rises : nat_le (number_at 1 l) (last_trap before) ≡ false = subst (λ k. does_not_rise k f l ≡ false) key_is p.order in
    let value : number_at 1 l ≡ trap.0 = ap (λ o. unwrap_or o 0) (ap number_of trap.1 ∙ number_of_accepts trap.0 trap.4) in
    record {
      trap = trap.0;
      store = store.0;
      words = w ∙ ap (λ x. codes "panic" ∷ x ∷ second ∷ []) trap.1 ∙ ap (λ x. codes "panic" ∷ decimal trap.0 ∷ x ∷ []) store.1;
      may = record {
        some_trap = trap.2;
        small_trap = trap.4;
        small_store = store.4;
        few = few;
        above = le_false trap.0 (last_trap before) (ap (λ n. nat_le n (last_trap before)) (sym value) ∙ rises);
      };
    }

is_panic : (frames : ℕ) (before : List PanicLine) (l : Line) (found : IsPanicLine before l) → IsPanic frames (line l) (bare_panic found.trap found.store)
is_panic frames before l found = record {
  spelled = ap line (spelled_three l (codes "panic") (decimal found.trap) (decimal found.store) found.words) ∙ sym (append-nil (line (panic_text found.trap found.store)));
  first_trap = found.may.some_trap;
  last_trap = found.may.small_trap;
  store = found.may.small_store;
  damages = All-from_recursion (IsDamage frames) [] tt;
  apart = no_pairs AreApart;
  most_damages = omega arith;
  agains = All-from_recursion (λ store. store < 2 ^ 32) [] tt;
  most_agains = omega arith;
}

-- a panic line, behind other panics or the starts
pub panic_step : (text : List ℕ) (f : Facts) (l : Line) (k : Key) (shape : Shape) (programs : List Program) (starts : List Started) (before : List PanicLine) → 1 ≤ length programs → 1 ≤ length starts
    → length before < 32 → ArePanics text shape programs starts before → f ≡ before_panic k shape programs starts before → key l ≡ Panic → IsPassed f l → SoFar (text ++ line l) (with_line f l)
panic_step text f l k shape programs starts before some some_start room are e key_is is =
    let found = panic_found k shape programs starts before l room key_is (subst (λ f. IsPassed f l) e is) in
    let panic = bare_panic found.trap found.store in
    let said : with_line f l ≡ at_panic shape programs starts (before ++ panic ∷ []) =
    ap (λ f. with_line f l) e ∙ panic_said k shape programs starts before l found.trap found.store found.words found.may.small_trap found.may.small_store in
    ToPanic shape programs starts (before ++ panic ∷ []) some some_start (record {
      before = are.before;
      started = are.started;
      panics_text = are.panics_text ++ line l;
      each = texts_more (IsPanic shape.user_frames) are.panics_text before (line l) panic are.each (is_panic shape.user_frames before l found);
      few = omega (arith, room, length-append before (panic ∷ []));
      rising = all_pairs_push (λ (a b : PanicLine). a.trap < b.trap) before panic are.rising (λ i d low. omega (arith, below_last before i d are.rising low, found.may.above));
      no_damages = All-push (λ (p : PanicLine). p.damages ≡ []) before panic are.no_damages refl;
      no_agains = All-push (λ (p : PanicLine). p.agains ≡ []) before panic are.no_agains refl;
      spelled = ap (λ t. t ++ line l) are.spelled ∙ append_assoc are.before are.panics_text (line l);
    }) said
