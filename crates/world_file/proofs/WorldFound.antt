-- What is read has the text, and is of the forms that can be read.
use Rattle.std.proofs.Common.{◌≡◌, ℕ, ◌+◌, ◌≤◌, ◌⊎◌, inl, inr, Bool, true, false, nat_lt, List, [], ◌∷◌, ◌++◌, length, Option, Some, None, Result, Ok, Err, codes, bytes_eq, arith, ap, ◌∙◌, sym, refl, subst, append_assoc, append-nil, if◌then◌else◌}
use Rattle.std.specs.List.{AllPairs}
use Rattle.std.proofs.lemmas.List.Elements.{All-from_recursion}
use Rattle.ow_base.specs.Lines.{line}
use Rattle.ow_base.specs.World.{AreTexts, IsWorld, IsTyped, AreKeys, head_lines}
use Rattle.ow_base.specs.declared.machine.Shape.{Shape}
use Rattle.ow_base.specs.declared.worlds.World.{World}
use Rattle.ow_base.specs.declared.worlds.Program.{Program}
use Rattle.ow_base.specs.declared.worlds.KeyByte.{KeyByte}
use Rattle.ow_base.specs.declared.worlds.FileText.{FileText}
use Rattle.ow_base.specs.declared.worlds.PanicLine.{PanicLine}
use Rattle.ow_base.specs.declared.worlds.Start.{Start as Started}
use Rattle.world_file.specs.declared.key.Key.TheVariants.{World as WorldKey, Frames, Sectors, Quantum, Budget, Program as ProgramKey, Code, Data}
use Rattle.world_file.specs.declared.why.Why.{Why}
use Rattle.world_file.specs.WorldLines.{Line, tokens, pieces, key_of}
use Rattle.world_file.specs.WorldFacts.{Facts}
use Rattle.world_file.specs.WorldReasons.{first_reason, end_place}
use Rattle.world_file.specs.declared.reasons.Place.TheVariants.{Free}
use Rattle.world_file.specs.WorldRefusals.{IsBuilt}
use Rattle.world_file.specs.WorldReading.{Refusal, with_line, world_of, nothing_said, is_nothing, ended, read_line, read_lines, read_text}
use Rattle.world_file.proofs.WorldPieces.{joined, joined-pieces, joined_line}
use Rattle.world_file.proofs.WorldNumbers.{same_bytes}
use Rattle.world_file.proofs.WorldFields.{lt_false}
use Rattle.world_file.proofs.WorldPassed.{IsPassed, passed}
use Rattle.world_file.proofs.WorldSaid.{ArePanics, SoFar, may_stand}
use Rattle.world_file.proofs.WorldPanics.{at_panic}
use Rattle.world_file.proofs.WorldPanicSteps.{none_panicked}
use Rattle.world_file.proofs.WorldStarted.{step}
use Rattle.world_file.proofs.WorldSaid.SoFar.{Nothing, First, ToFrames, ToSectors, ToQuantum, ToBudget, ToProgram, ToCode, ToData, ToStart, ToPanic}

-- the text, if it is not too long, is of this world
abbrev IsWhole : (text : List ℕ) → World → Type 0
IsWhole text world = (length text ≤ 1048576 → IsWorld text world) × IsBuilt world

-- the line `end` stands where it may
may_end : (f : Facts) → IsPassed f (codes "end") → end_place f.last ≡ Free
unfolding tokens pieces key_of
may_end f is = may_stand f (codes "end") is

no_pairs : {A : Type 0} (R : A → A → Type 0) → AllPairs R []
no_pairs R i j d low high = absurd (omega arith)

-- the world that is said, with its programs, starts and panics
abbrev world_with : Shape → List Program → List Started → List PanicLine → World
world_with shape programs starts panics = record {
  load = record { shape = shape; files = []; programs = programs; starts = starts };
  typed0 = [];
  typed1 = [];
  panics = panics;
}

regroup : (h b s p e : List ℕ) → (((h ++ b) ++ s) ++ p) ++ e ≡ h ++ (b ++ (s ++ (p ++ e)))
regroup h b s p e = simp append_assoc

no_keys : AreKeys []
no_keys = record { in_order = no_pairs (λ (a b : KeyByte). a.trap ≤ b.trap); most = omega arith }

panicked_world : (text : List ℕ) (shape : Shape) (programs : List Program) (starts : List Started) (panics : List PanicLine) → 1 ≤ length programs → 1 ≤ length starts → ArePanics text shape programs starts panics
    → length (text ++ line (codes "end")) ≤ 1048576 → IsWorld (text ++ line (codes "end")) (world_with shape programs starts panics)
unfolding AreTexts
panicked_world text shape programs starts panics some more are short =
    let is = are.started in
    let starts_text = is.starts_text in
    let panics_text = are.panics_text in
    let end = line (codes "end") in
    record {
      files_text = [];
      programs_text = is.blocks.blocks;
      starts_text = starts_text;
      typed = [];
      panics_text = panics_text;
      spelled = ap (λ t. t ++ end) (are.spelled ∙ ap (λ t. t ++ panics_text) (is.spelled ∙ ap (λ b. b ++ starts_text) is.blocks.spelled))
          ∙ regroup (head_lines shape) is.blocks.blocks starts_text panics_text end;
      longest = short;
      shape = is.blocks.head;
      files = refl;
      most_files = omega arith;
      file_names = no_pairs (λ (a b : FileText). a.name ≡ b.name → ⊥);
      sectors = omega arith;
      programs = is.blocks.each;
      some_program = some;
      most_programs = is.blocks.few;
      program_names = is.blocks.apart;
      starts = is.each;
      some_start = more;
      most_starts = is.few;
      frames = is.fits;
      each_typed = All-from_recursion IsTyped [] tt;
      typed0_is = refl;
      typed1_is = refl;
      typed0 = no_keys;
      typed1 = no_keys;
      panics = are.each;
      most_panics = are.few;
      traps = are.rising;
    }

-- the world of the lines up to the starts or to some panics
whole_world : (text : List ℕ) (shape : Shape) (programs : List Program) (starts : List Started) (panics : List PanicLine) (f : Facts) (world : World) → 1 ≤ length programs → 1 ≤ length starts
    → ArePanics text shape programs starts panics → world_of f ≡ world_of (at_panic shape programs starts panics) → world_of f ≡ world → IsWhole (text ++ line (codes "end")) world
whole_world text shape programs starts panics f world some more are said is =
    let same : world_with shape programs starts panics ≡ world = ap (λ ps. world_with shape ps starts panics) (sym (append-nil programs)) ∙ sym said ∙ is in
    subst (IsWhole (text ++ line (codes "end"))) same
    (λ short. panicked_world text shape programs starts panics some more are short, record { no_files = refl; no_typed0 = refl; no_typed1 = refl; no_damages = are.no_damages; no_agains = are.no_agains })

ended_found : (text : List ℕ) (f : Facts) (world : World) → SoFar text f → end_place f.last ≡ Free → world_of f ≡ world → IsWhole (text ++ line (codes "end")) world
ended_found text f world (Nothing t e) last is = let h : end_place None ≡ Free = sym (ap (λ f. end_place f.last) e) ∙ last in cc
ended_found text f world (First t e) last is = let h : end_place (Some WorldKey) ≡ Free = sym (ap (λ f. end_place f.last) e) ∙ last in cc
ended_found text f world (ToFrames u in_u t e) last is = let h : end_place (Some Frames) ≡ Free = sym (ap (λ f. end_place f.last) e) ∙ last in cc
ended_found text f world (ToSectors u s in_u in_s t e) last is = let h : end_place (Some Sectors) ≡ Free = sym (ap (λ f. end_place f.last) e) ∙ last in cc
ended_found text f world (ToQuantum u s q in_u in_s in_q t e) last is = let h : end_place (Some Quantum) ≡ Free = sym (ap (λ f. end_place f.last) e) ∙ last in cc
ended_found text f world (ToBudget shape blocks e) last is = let h : end_place (Some Budget) ≡ Free = sym (ap (λ f. end_place f.last) e) ∙ last in cc
ended_found text f world (ToProgram shape done program opened e) last is = let h : end_place (Some ProgramKey) ≡ Free = sym (ap (λ f. end_place f.last) e) ∙ last in cc
ended_found text f world (ToCode shape done program opened e) last is = let h : end_place (Some Code) ≡ Free = sym (ap (λ f. end_place f.last) e) ∙ last in cc
ended_found text f world (ToData shape done program opened e) last is = let h : end_place (Some Data) ≡ Free = sym (ap (λ f. end_place f.last) e) ∙ last in cc
ended_found text f world (ToStart shape programs starts some more started e) last is =
    whole_world text shape programs starts [] f world some more (none_panicked text shape programs starts started) (ap world_of e) is
ended_found text f world (ToPanic shape programs starts panics some more are e) last is =
    whole_world text shape programs starts panics f world some more are (ap world_of e) is

-- what reading did at a line
abbrev IsLast : Facts → Line → (ahead : List Line) → World → Type 0
IsLast f l ahead world = (bytes_eq l (codes "end") ≡ true) × (is_nothing ahead ≡ true) × (world_of f ≡ world)

abbrev GoesOn : Line → Result World Refusal → World → Type 0
GoesOn l more world = (bytes_eq l (codes "end") ≡ false) × (more ≡ Ok world)

by_nothing : (b : Bool) (w world : World) (r : Refusal) → (if b then Ok w else Err r) ≡ Ok world → (b ≡ true) × (w ≡ world)
by_nothing true w world r h = (refl, cc)
by_nothing false w world r h = cc

by_end : (b : Bool) (f : Facts) (n : ℕ) (ahead : List Line) (more : Result World Refusal) (world : World) → (if b then ended f n ahead else more) ≡ Ok world
    → ((b ≡ true) × (is_nothing ahead ≡ true) × (world_of f ≡ world)) ⊎ ((b ≡ false) × (more ≡ Ok world))
by_end true f n ahead more world h = let is = by_nothing (is_nothing ahead) (world_of f) world _ h in inl (refl, is.0, is.1)
by_end false f n ahead more world h = inr (refl, h)

by_reason : (o : Option Why) (f : Facts) (n : ℕ) (l : Line) (ahead : List Line) (more : Result World Refusal) (world : World) → read_line o f n l ahead more ≡ Ok world
    → (o ≡ None) × (IsLast f l ahead world ⊎ GoesOn l more world)
by_reason (Some why) f n l ahead more world h = cc
by_reason None f n l ahead more world h = (refl, by_end (bytes_eq l (codes "end")) f n ahead more world h)

last_line : (l next : Line) (ahead : List Line) → is_nothing (next ∷ ahead) ≡ true → joined 10 (l ∷ next ∷ ahead) ≡ line l
last_line l [] [] h = refl
last_line l [] (other ∷ ahead) h = cc
last_line l (b ∷ next) ahead h = cc

-- a line and what follows
one_more : (text : List ℕ) (f : Facts) (l next : Line) (ahead : List Line) (world : World) (more : Result World Refusal) → SoFar text f → IsPassed f l
    → (SoFar (text ++ line l) (with_line f l) → more ≡ Ok world → IsWhole ((text ++ line l) ++ joined 10 (next ∷ ahead)) world)
    → IsLast f l (next ∷ ahead) world ⊎ GoesOn l more world → IsWhole (text ++ joined 10 (l ∷ next ∷ ahead)) world
one_more text f l next ahead world more so_far is others (inl last) =
    let end = same_bytes l (codes "end") last.0 in
    subst (λ t. IsWhole (text ++ t) world) (sym (last_line l next ahead last.1 ∙ ap line end))
    (ended_found text f world so_far (may_end f (subst (IsPassed f) end is)) last.2)
one_more text f l next ahead world more so_far is others (inr goes) =
    subst (λ t. IsWhole t world) (append_assoc text (line l) (joined 10 (next ∷ ahead)) ∙ ap (λ t. text ++ t) (sym (joined_line l next ahead)))
    (others (step text f l so_far is goes.0) goes.1)

whole : (lines : List Line) (text : List ℕ) (f : Facts) (n : ℕ) (world : World) → SoFar text f → read_lines f n lines ≡ Ok world → IsWhole (text ++ joined 10 lines) world
unfolding read_lines
whole [] text f n world so_far h = cc
whole (l ∷ []) text f n world so_far h = cc
whole (l ∷ next ∷ ahead) text f n world so_far h =
    let r = by_reason (first_reason f l) f n l (next ∷ ahead) (read_lines (with_line f l) (n + 1) (next ∷ ahead)) world h in
    one_more text f l next ahead world (read_lines (with_line f l) (n + 1) (next ∷ ahead)) so_far (passed f l r.0)
    (λ s g. whole (next ∷ ahead) (text ++ line l) (with_line f l) (n + 1) world s g) r.1

by_length : (b : Bool) (r : Refusal) (more : Result World Refusal) (world : World) → (if b then Err r else more) ≡ Ok world → (b ≡ false) × (more ≡ Ok world)
by_length true r more world h = cc
by_length false r more world h = (refl, h)

pub world_found : (text : List ℕ) (world : World) → read_text text ≡ Ok world → IsWorld text world × IsBuilt world
unfolding read_text
world_found text world h =
    let is = by_length (nat_lt 1048576 (length text)) _ (read_lines nothing_said 0 (pieces 10 text)) world h in
    let short = lt_false 1048576 (length text) is.0 in
    let found = subst (λ t. IsWhole t world) (joined-pieces 10 text) (whole (pieces 10 text) [] nothing_said 0 world (Nothing refl refl) is.1) in
    (found.0 short, found.1)
