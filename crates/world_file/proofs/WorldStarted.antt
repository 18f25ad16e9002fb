-- The start lines and each step of reading, from the lines that were read.
use Rattle.std.proofs.Common.{◌≡◌, ℕ, ◌+◌, ◌<◌, ◌≤◌, Bool, true, false, ◌||◌, List, [], ◌∷◌, ◌++◌, length, find, Option, Some, None, codes, decimal, bytes_eq, option_to_list, arith, ap, ◌∙◌, sym, refl, subst, append_assoc, append-nil, length-append, if◌then◌else◌}
use Rattle.std.specs.List.{slice_get, list_any, position_or_len}
use Rattle.std.proofs.lemmas.List.Folds.{find_at}
use Rattle.ow_base.specs.Lines.{line, spaced}
use Rattle.ow_base.specs.World.{AreTexts, IsStart, pages_of_found, start_pages}
use Rattle.ow_base.specs.declared.machine.Shape.{Shape}
use Rattle.ow_base.specs.declared.worlds.PanicLine.{PanicLine}
use Rattle.ow_base.specs.declared.worlds.Program.{Program}
use Rattle.ow_base.specs.declared.worlds.Start.{Start as Started}
use Rattle.world_file.specs.declared.key.Key.{Key}
use Rattle.world_file.specs.declared.key.Key.TheVariants.{Budget, Program as ProgramKey, Code, Data, Start, Panic, End}
use Rattle.world_file.specs.WorldLines.{Line, token_at, fields, key, number_of, is_number}
use Rattle.world_file.specs.WorldFacts.{Facts, has_name}
use Rattle.world_file.specs.WorldReasons.{place_of, has_no_number, names_no_program, exceeds_frames}
use Rattle.world_file.specs.declared.reasons.Place.TheVariants.{Free}
use Rattle.world_file.specs.WorldReading.{with_line}
use Rattle.world_file.proofs.WorldPieces.{joined}
use Rattle.world_file.proofs.WorldNumbers.{same_bytes, number_of_accepts}
use Rattle.world_file.proofs.WorldFields.{lt_false}
use Rattle.world_file.proofs.WorldSpelled.{spelled_words, spelled_three}
use Rattle.world_file.proofs.WorldPassed.{IsPassed}
use Rattle.world_file.proofs.WorldHead.{at_head}
use Rattle.world_file.proofs.WorldBlocksRead.{at_program}
use Rattle.world_file.proofs.WorldAccepts.{before_start, at_start}
use Rattle.world_file.proofs.WorldStarts.{pages_of, pages_push}
use Rattle.world_file.proofs.WorldPanics.{at_panic}
use Rattle.world_file.proofs.WorldPanicSteps.{none_panicked, panic_step}
use Rattle.world_file.proofs.WorldKeys.{not_false, first_word, words_split, words_two, no_field, number_found}
use Rattle.world_file.proofs.WorldSaid.{AreBlocks, AreStarted, ArePanics, IsOpen, SoFar, may_stand, field_count}
use Rattle.world_file.proofs.WorldHeadSteps.{first_step, frames_step, sectors_step, quantum_step, budget_step}
use Rattle.world_file.proofs.WorldBlockSteps.{texts_more, closed, counted_free, program_step, code_step, data_step}
use Rattle.world_file.proofs.WorldSaid.SoFar.{Nothing, First, ToFrames, ToSectors, ToQuantum, ToBudget, ToProgram, ToCode, ToData, ToStart, ToPanic}

-- what a search by a test that holds somewhere finds
abbrev IsFoundBy : (name : List ℕ) → Option Program → Type 0
IsFoundBy name found = (p : Program) × (found ≡ Some p) × (p.name ≡ name)

found_first : (b : Bool) (q : Program) (programs : List Program) (name : List ℕ) → bytes_eq q.name name ≡ b → (b || list_any (has_name name) programs) ≡ true
    → (list_any (has_name name) programs ≡ true → IsFoundBy name (find (has_name name) programs)) → IsFoundBy name (if b then Some q else find (has_name name) programs)
found_first true q programs name e h more = (q, refl, same_bytes q.name name e)
found_first false q programs name e h more = more h

any_found : (programs : List Program) (name : List ℕ) → list_any (has_name name) programs ≡ true → IsFoundBy name (find (has_name name) programs)
any_found [] name h = cc
any_found (q ∷ programs) name h = found_first (bytes_eq q.name name) q programs name refl h (any_found programs name)

-- what is said with a start line
start_given : (k : Key) (shape : Shape) (done : List Program) (o : Option Program) (before : List Started) (l : Line) (tty : ℕ) → key l ≡ Start → number_of (token_at 2 l) ≡ Some tty
    → with_line (before_start k shape done o before) l ≡ at_start shape (done ++ option_to_list o) (before ++ record { program = position_or_len (has_name (token_at 1 l)) (done ++ option_to_list o); tty = tty } ∷ [])
unfolding with_line
start_given k shape done o before l tty key_is value = rw (key_is, value) refl

-- the start that a line says
pub record IsStartLine (shape : Shape) (programs : List Program) (before : List Started) (l : Line) : Type 0 where
  pub start : Started
  pub program : Program
  pub place : position_or_len (has_name (token_at 1 l)) programs ≡ start.program
  pub value : number_of (token_at 2 l) ≡ Some start.tty
  pub found : slice_get programs start.program ≡ Some program
  pub tty : start.tty < 2
  pub fits : start_pages programs (before ++ start ∷ []) ≤ shape.user_frames
  pub spelled : l ≡ spaced (spaced (codes "start") program.name) (decimal start.tty)

start_found : (k : Key) (shape : Shape) (done : List Program) (o : Option Program) (before : List Started) (l : Line) → key l ≡ Start → IsPassed (before_start k shape done o before) l
    → IsStartLine shape (done ++ option_to_list o) before l
start_found k shape done o before l key_is p =
    let f = before_start k shape done o before in
    let programs = done ++ option_to_list o in
    let name = token_at 1 l in
    let w = words_two l (codes "start") (first_word l Start key_is) (field_count f l Start key_is p) in
    let number = number_found 0 1 (token_at 2 l) (not_false (is_number 0 1 (token_at 2 l)) (subst (λ k. has_no_number k l ≡ false) key_is p.number)) in
    let tty = number.0 in
    let any = not_false (list_any (has_name name) programs) (subst (λ k. names_no_program k f l ≡ false) key_is p.program) in
    let found = any_found programs name any in
    let start : Started = record { program = position_or_len (has_name name) programs; tty = tty } in
    let at_place : slice_get programs start.program ≡ Some found.0 = sym (find_at (has_name name) programs) ∙ found.1 in
    let room = lt_false shape.user_frames (start_pages programs before + pages_of_found (find (has_name name) programs)) (subst (λ k. exceeds_frames k f l ≡ false) key_is p.frames) in
    let same : pages_of programs start ≡ pages_of_found (find (has_name name) programs) = ap pages_of_found (at_place ∙ sym found.1) in
    record {
      start = start;
      program = found.0;
      place = refl;
      value = ap number_of number.1 ∙ number_of_accepts tty number.4;
      found = at_place;
      tty = omega (arith, number.3);
      fits = omega (arith, room, pages_push programs before start, same);
      spelled = spelled_three l (codes "start") name (token_at 2 l) w
          ∙ ap (λ n. spaced (spaced (codes "start") n) (token_at 2 l)) (sym found.2) ∙ ap (λ d. spaced (spaced (codes "start") found.0.name) d) number.1;
    }

-- a start line, behind other starts or the first
start_step : (text : List ℕ) (f : Facts) (l : Line) (k : Key) (shape : Shape) (done : List Program) (o : Option Program) (before : List Started) → 1 ≤ length (done ++ option_to_list o) → length before < 16
    → AreStarted text shape (done ++ option_to_list o) before → f ≡ before_start k shape done o before → key l ≡ Start → IsPassed f l → SoFar (text ++ line l) (with_line f l)
start_step text f l k shape done o before some room started e key_is is =
    let programs = done ++ option_to_list o in
    let found = start_found k shape done o before l key_is (subst (λ f. IsPassed f l) e is) in
    let start = found.start in
    let starts = before ++ start ∷ [] in
    let count = length-append before (start ∷ []) in
    let said : with_line f l ≡ at_start shape programs starts =
    ap (λ f. with_line f l) e ∙ start_given k shape done o before l start.tty key_is found.value
    ∙ ap (λ place. at_start shape programs (before ++ record { program = place; tty = start.tty } ∷ [])) found.place in
    ToStart shape programs starts some (omega (arith, count)) (record {
      before = started.before;
      blocks = started.blocks;
      starts_text = started.starts_text ++ line l;
      each = texts_more (IsStart programs) started.starts_text before (line l) start started.each (record { program = found.program; found = found.found; spelled = ap line found.spelled; tty = found.tty });
      few = omega (arith, room, count);
      fits = found.fits;
      spelled = ap (λ t. t ++ line l) started.spelled ∙ append_assoc started.before started.starts_text (line l);
    }) said

-- the blocks, whole, with no start yet
none_started : (text : List ℕ) (shape : Shape) (programs : List Program) → AreBlocks text shape programs → AreStarted text shape programs []
unfolding AreTexts
none_started text shape programs blocks =
    record { before = text; blocks = blocks; starts_text = []; each = refl; few = omega arith; fits = omega arith; spelled = sym (append-nil text) }

-- the first start line
first_start : (text : List ℕ) (f : Facts) (l : Line) (k : Key) (shape : Shape) (done : List Program) (program : Program) → AreBlocks text shape (done ++ program ∷ [])
    → f ≡ at_program k shape done (Some program) → key l ≡ Start → IsPassed f l → SoFar (text ++ line l) (with_line f l)
first_start text f l k shape done program blocks e key_is is =
    start_step text f l k shape done (Some program) [] (omega (arith, length-append done (program ∷ []))) (omega arith) (none_started text shape (done ++ program ∷ []) blocks) e key_is is

-- each line that is passed and is not the last
after_budget : (k : Key) (shape : Shape) → place_of k (at_head Budget shape) ≡ Free → k ≡ ProgramKey
after_budget ProgramKey shape h = refl
after_budget other shape h = cc

after_program : (k : Key) (shape : Shape) (done : List Program) (program : Program) → place_of k (at_program ProgramKey shape done (Some program)) ≡ Free → k ≡ Code
after_program Code shape done program h = refl
after_program other shape done program h = cc

after_code : (text : List ℕ) (f : Facts) (l : Line) (shape : Shape) (done : List Program) (program : Program) → IsOpen text Code shape done program → f ≡ at_program Code shape done (Some program) → IsPassed f l
    → (k : Key) → key l ≡ k → place_of k (at_program Code shape done (Some program)) ≡ Free → SoFar (text ++ line l) (with_line f l)
after_code text f l shape done program opened e is ProgramKey key_is free = program_step text f l Code shape done (Some program) (λ c. refl) (closed text Code shape done program opened opened.has_come.0) e key_is is
after_code text f l shape done program opened e is Code key_is free = code_step text f l Code shape done program opened opened.has_come.1 opened.has_come.2 e key_is is
after_code text f l shape done program opened e is Data key_is free = data_step text f l Code shape done program opened opened.has_come.0 e key_is is
after_code text f l shape done program opened e is Start key_is free = first_start text f l Code shape done program (closed text Code shape done program opened opened.has_come.0) e key_is is
after_code text f l shape done program opened e is other key_is free = cc

after_data : (text : List ℕ) (f : Facts) (l : Line) (shape : Shape) (done : List Program) (program : Program) → IsOpen text Data shape done program → f ≡ at_program Data shape done (Some program) → IsPassed f l
    → (k : Key) → key l ≡ k → place_of k (at_program Data shape done (Some program)) ≡ Free → SoFar (text ++ line l) (with_line f l)
after_data text f l shape done program opened e is ProgramKey key_is free = program_step text f l Data shape done (Some program) (λ c. refl) (closed text Data shape done program opened opened.has_come) e key_is is
after_data text f l shape done program opened e is Data key_is free = data_step text f l Data shape done program opened opened.has_come e key_is is
after_data text f l shape done program opened e is Start key_is free = first_start text f l Data shape done program (closed text Data shape done program opened opened.has_come) e key_is is
after_data text f l shape done program opened e is other key_is free = cc

end_line : (f : Facts) (l : Line) → key l ≡ End → IsPassed f l → l ≡ codes "end"
end_line f l e is =
    let none = no_field (fields l) (field_count f l End e is) in
    spelled_words l ∙ ap (joined 32) (words_split l ∙ ap (λ fs. token_at 0 l ∷ fs) none ∙ ap (λ w. w ∷ []) (first_word l End e))

after_start : (text : List ℕ) (f : Facts) (l : Line) (shape : Shape) (programs : List Program) (starts : List Started) → 1 ≤ length programs → 1 ≤ length starts → AreStarted text shape programs starts
    → f ≡ at_start shape programs starts → IsPassed f l → bytes_eq l (codes "end") ≡ false → (k : Key) → key l ≡ k → place_of k (at_start shape programs starts) ≡ Free → SoFar (text ++ line l) (with_line f l)
after_start text f l shape programs starts some some_start started e is other Start key_is free =
    let whole = sym (append-nil programs) in
    start_step text f l Start shape programs None starts (subst (λ ps. 1 ≤ length ps) whole some) (counted_free 16 (length starts) free)
    (subst (λ ps. AreStarted text shape ps starts) whole started) e key_is is
after_start text f l shape programs starts some some_start started e is other Panic key_is free =
    panic_step text f l Start shape programs starts [] some some_start (omega arith) (none_panicked text shape programs starts started) e key_is is
after_start text f l shape programs starts some some_start started e is other End key_is free =
    let hit : bytes_eq l (codes "end") ≡ true = ap (λ l. bytes_eq l (codes "end")) (end_line (at_start shape programs starts) l key_is (subst (λ f. IsPassed f l) e is)) in
    cc
after_start text f l shape programs starts some some_start started e is other k key_is free = cc

after_panic : (text : List ℕ) (f : Facts) (l : Line) (shape : Shape) (programs : List Program) (starts : List Started) (panics : List PanicLine) → 1 ≤ length programs → 1 ≤ length starts
    → ArePanics text shape programs starts panics → f ≡ at_panic shape programs starts panics → IsPassed f l → bytes_eq l (codes "end") ≡ false
    → (k : Key) → key l ≡ k → place_of k (at_panic shape programs starts panics) ≡ Free → SoFar (text ++ line l) (with_line f l)
after_panic text f l shape programs starts panics some some_start are e is other Panic key_is free =
    panic_step text f l Panic shape programs starts panics some some_start (counted_free 32 (length panics) free) are e key_is is
after_panic text f l shape programs starts panics some some_start are e is other End key_is free =
    let hit : bytes_eq l (codes "end") ≡ true = ap (λ l. bytes_eq l (codes "end")) (end_line (at_panic shape programs starts panics) l key_is (subst (λ f. IsPassed f l) e is)) in
    cc
after_panic text f l shape programs starts panics some some_start are e is other k key_is free = cc

pub step : (text : List ℕ) (f : Facts) (l : Line) → SoFar text f → IsPassed f l → bytes_eq l (codes "end") ≡ false → SoFar (text ++ line l) (with_line f l)
step text f l (Nothing t e) is other = first_step text f l t e is
step text f l (First t e) is other = frames_step text f l t e is
step text f l (ToFrames u in_u t e) is other = sectors_step text f l u in_u t e is
step text f l (ToSectors u s in_u in_s t e) is other = quantum_step text f l u s in_u in_s t e is
step text f l (ToQuantum u s q in_u in_s in_q t e) is other = budget_step text f l u s q in_u in_s in_q t e is
step text f l (ToBudget shape blocks e) is other =
    let p = subst (λ f. IsPassed f l) e is in
    program_step text f l Budget shape [] None (λ c. refl) blocks e (after_budget (key l) shape (may_stand (at_head Budget shape) l p)) is
step text f l (ToProgram shape done program opened e) is other =
    let p = subst (λ f. IsPassed f l) e is in
    code_step text f l ProgramKey shape done program opened opened.has_come.0 opened.has_come.1 e (after_program (key l) shape done program (may_stand (at_program ProgramKey shape done (Some program)) l p)) is
step text f l (ToCode shape done program opened e) is other =
    let p = subst (λ f. IsPassed f l) e is in
    after_code text f l shape done program opened e is (key l) refl (may_stand (at_program Code shape done (Some program)) l p)
step text f l (ToData shape done program opened e) is other =
    let p = subst (λ f. IsPassed f l) e is in
    after_data text f l shape done program opened e is (key l) refl (may_stand (at_program Data shape done (Some program)) l p)
step text f l (ToStart shape programs starts some more started e) is other =
    let p = subst (λ f. IsPassed f l) e is in
    after_start text f l shape programs starts some more started e is other (key l) refl (may_stand (at_start shape programs starts) l p)
step text f l (ToPanic shape programs starts panics some more are e) is other =
    let p = subst (λ f. IsPassed f l) e is in
    after_panic text f l shape programs starts panics some more are e is other (key l) refl (may_stand (at_panic shape programs starts panics) l p)
