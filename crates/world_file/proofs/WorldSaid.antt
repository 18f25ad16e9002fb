-- What the lines that were read say, and the five lines at the head.
use Rattle.std.proofs.Common.{◌≡◌, ℕ, ◌^◌, ◌<◌, ◌≤◌, true, false, not, ◌==◌, List, [], ◌∷◌, ◌++◌, length, Some, codes, decimal, ap, ◌∙◌, sym, refl, subst}
use Rattle.std.specs.List.{All, list_any}
use Rattle.ow_base.specs.Lines.{line, spaced, number_line}
use Rattle.ow_base.specs.World.{AreTexts, IsShape, IsName, AreWordLines, IsProgram, IsStart, IsPanic, head_lines, start_pages}
use Rattle.ow_base.specs.declared.machine.Shape.{Shape}
use Rattle.ow_base.specs.declared.worlds.PanicLine.{PanicLine}
use Rattle.ow_base.specs.declared.worlds.Program.{Program}
use Rattle.ow_base.specs.declared.worlds.Start.{Start as Started}
use Rattle.world_file.specs.declared.key.Key.{Key}
use Rattle.world_file.specs.declared.key.Key.TheVariants.{World as WorldKey, Frames, Sectors, Quantum, Budget, Program as ProgramKey, Code, Data}
use Rattle.world_file.specs.WorldLines.{Line, tokens, token_at, fields, key, is_number, is_empty}
use Rattle.world_file.specs.WorldFacts.{Facts, no_shape, has_name}
use Rattle.world_file.specs.WorldReasons.{place_of, is_barred, is_taken, has_fields, has_no_number, has_too_many_words}
use Rattle.world_file.specs.declared.reasons.Place.{Place}
use Rattle.world_file.specs.declared.reasons.Place.TheVariants.{Free, Taken, Barred}
use Rattle.world_file.specs.WorldReading.{nothing_said}
use Rattle.world_file.proofs.WorldPassed.{IsPassed}
use Rattle.world_file.proofs.WorldHead.{at_head, shape_with}
use Rattle.world_file.proofs.WorldBlocksRead.{at_program}
use Rattle.world_file.proofs.WorldBlocks.{NamesApart}
use Rattle.world_file.proofs.WorldAccepts.{at_start}
use Rattle.world_file.proofs.WorldPanics.{AreRising, at_panic}
use Rattle.world_file.proofs.WorldKeys.{neither, not_false, words_one, number_found}

abbrev pub IsIn : (low high n : ℕ) → Type 0
IsIn low high n = (low ≤ n) × (n ≤ high)

-- the head and the blocks that are finished
pub record AreBlocks (text : List ℕ) (shape : Shape) (programs : List Program) : Type 0 where
  pub blocks : List ℕ
  pub spelled : text ≡ head_lines shape ++ blocks
  pub head : IsShape shape
  pub each : AreTexts IsProgram blocks programs
  pub apart : NamesApart programs
  pub few : length programs ≤ 16

-- how far a block has come with a line of this key
abbrev pub HasCome : Key → (program : Program) (values_text : List ℕ) → Type 0
HasCome Code program values_text = (1 ≤ length program.code) × (program.values ≡ []) × (values_text ≡ [])
HasCome Data program values_text = 1 ≤ length program.code
HasCome other program values_text = (program.values ≡ []) × (values_text ≡ [])

-- the finished blocks and a block that may go on
pub record IsOpen (text : List ℕ) (last : Key) (shape : Shape) (done : List Program) (program : Program) : Type 0 where
  pub before : List ℕ
  pub blocks : AreBlocks before shape done
  pub room : length done < 16
  pub fresh : list_any (has_name program.name) done ≡ false
  pub named : IsName program.name
  pub code_text : List ℕ
  pub values_text : List ℕ
  pub spelled : text ≡ before ++ (line (spaced (codes "program") program.name) ++ (code_text ++ values_text))
  pub code : AreWordLines (codes "code") code_text program.code
  pub values : AreWordLines (codes "data") values_text program.values
  pub has_come : HasCome last program values_text

-- all up to some start line
pub record AreStarted (text : List ℕ) (shape : Shape) (programs : List Program) (starts : List Started) : Type 0 where
  pub before : List ℕ
  pub blocks : AreBlocks before shape programs
  pub starts_text : List ℕ
  pub each : AreTexts (IsStart programs) starts_text starts
  pub few : length starts ≤ 16
  pub fits : start_pages programs starts ≤ shape.user_frames
  pub spelled : text ≡ before ++ starts_text

-- all up to some panic line
pub record ArePanics (text : List ℕ) (shape : Shape) (programs : List Program) (starts : List Started) (panics : List PanicLine) : Type 0 where
  pub before : List ℕ
  pub started : AreStarted before shape programs starts
  pub panics_text : List ℕ
  pub each : AreTexts (IsPanic shape.user_frames) panics_text panics
  pub few : length panics ≤ 32
  pub rising : AreRising panics
  pub no_damages : All (λ (panic : PanicLine). panic.damages ≡ []) panics
  pub no_agains : All (λ (panic : PanicLine). panic.agains ≡ []) panics
  pub spelled : text ≡ before ++ panics_text

-- what the lines of a text say where each was passed
pub data SoFar (text : List ℕ) (f : Facts) : Type 0 where
  Nothing : text ≡ [] → f ≡ nothing_said → SoFar text f
  First : text ≡ line (codes "world 1") → f ≡ at_head WorldKey no_shape → SoFar text f
  ToFrames : (u : ℕ) → IsIn 16 384 u → text ≡ line (codes "world 1") ++ number_line (codes "frames") u → f ≡ at_head Frames (shape_with u 0 0 0) → SoFar text f
  ToSectors : (u s : ℕ) → IsIn 16 384 u → IsIn 1 2048 s → text ≡ line (codes "world 1") ++ (number_line (codes "frames") u ++ number_line (codes "sectors") s)
      → f ≡ at_head Sectors (shape_with u s 0 0) → SoFar text f
  ToQuantum : (u s q : ℕ) → IsIn 16 384 u → IsIn 1 2048 s → IsIn 1 10000 q
      → text ≡ line (codes "world 1") ++ (number_line (codes "frames") u ++ (number_line (codes "sectors") s ++ number_line (codes "quantum") q))
      → f ≡ at_head Quantum (shape_with u s q 0) → SoFar text f
  ToBudget : (shape : Shape) → AreBlocks text shape [] → f ≡ at_head Budget shape → SoFar text f
  ToProgram : (shape : Shape) (done : List Program) (program : Program) → IsOpen text ProgramKey shape done program → f ≡ at_program ProgramKey shape done (Some program) → SoFar text f
  ToCode : (shape : Shape) (done : List Program) (program : Program) → IsOpen text Code shape done program → f ≡ at_program Code shape done (Some program) → SoFar text f
  ToData : (shape : Shape) (done : List Program) (program : Program) → IsOpen text Data shape done program → f ≡ at_program Data shape done (Some program) → SoFar text f
  ToStart : (shape : Shape) (programs : List Program) (starts : List Started) → 1 ≤ length programs → 1 ≤ length starts → AreStarted text shape programs starts → f ≡ at_start shape programs starts → SoFar text f
  ToPanic : (shape : Shape) (programs : List Program) (starts : List Started) (panics : List PanicLine) → 1 ≤ length programs → 1 ≤ length starts → ArePanics text shape programs starts panics
      → f ≡ at_panic shape programs starts panics → SoFar text f

-- a line that is passed stands where it may
free_place : (place : Place) → is_barred place ≡ false → is_taken place ≡ false → place ≡ Free
free_place Free word count = refl
free_place Taken word count = cc
free_place Barred word count = cc

pub may_stand : (f : Facts) (l : Line) → IsPassed f l → place_of (key l) f ≡ Free
may_stand f l is = free_place (place_of (key l) f) is.word (neither (is_taken (place_of (key l) f)) (has_too_many_words (key l) f l) is.count).0

pub field_count : (f : Facts) (l : Line) (k : Key) → key l ≡ k → IsPassed f l → has_fields k (length (fields l)) ≡ true
field_count f l k e is = subst (λ k. has_fields k (length (fields l)) ≡ true) e (not_false (has_fields (key l) (length (fields l))) (neither (not (has_fields (key l) (length (fields l)))) (list_any is_empty (tokens l)) is.fields).0)

-- a line of a key and one number
abbrev pub IsLimit : (low high : ℕ) (word : List ℕ) (l : Line) → Type 0
IsLimit low high word l = (n : ℕ) × (tokens l ≡ word ∷ decimal n ∷ []) × IsIn low high n × (n < 2 ^ 32)

pub limit_found : (f : Facts) (l : Line) (low high : ℕ) (word : List ℕ) (k : Key) → key l ≡ k → token_at 0 l ≡ word → has_fields k (length (fields l)) ≡ (length (fields l) == 1)
    → has_no_number k l ≡ not (is_number low high (token_at 1 l)) → IsPassed f l → IsLimit low high word l
limit_found f l low high word k e first count number is =
    let w = words_one l word first (sym count ∙ field_count f l k e is) in
    let read = not_false (is_number low high (token_at 1 l)) (sym number ∙ ap (λ k. has_no_number k l) (sym e) ∙ is.number) in
    let found = number_found low high (token_at 1 l) read in
    (found.0, w ∙ ap (λ x. word ∷ x ∷ []) found.1, (found.2, found.3), found.4)
