-- Each world of the forms that can be read is read from its text.
use Rattle.std.proofs.Common.{◌≡◌, ℕ, zero, suc, ◌+◌, ◌<◌, ◌≤◌, true, List, [], ◌∷◌, ◌++◌, length, map, get_or, find, Option, Some, None, Ok, codes, decimal, bytes_eq, option_to_list, arith, ap, ◌∙◌, sym, refl, subst, ◌==◌, if◌then◌else◌, append_assoc, append-nil, length-append}
use Rattle.std.specs.List.{AllByRecursion, slice_get, flat_map, list_any, position_or_len}
use Rattle.std.proofs.lemmas.List.Sums.{position_or_len_is}
use Rattle.std.proofs.lemmas.List.Folds.{find_at, list_any_at}
use Rattle.std.proofs.lemmas.List.Elements.{recursion_from_All}
use Rattle.std.proofs.lemmas.Option.{slice_get_within, get_or_from_slice_get}
use Rattle.std.proofs.lemmas.Slice.Eq.{bytes_eq-Decides}
use Rattle.ow_base.specs.Lines.{line, spaced}
use Rattle.ow_base.specs.World.{AreTexts, IsName, IsProgram, IsStart, IsWorld, IsFile, IsTyped, Typed, typed_on, type_line, head_lines, start_line, pages_of_found, start_pages}
use Rattle.ow_base.specs.declared.machine.Shape.{Shape}
use Rattle.ow_base.specs.declared.worlds.World.{World}
use Rattle.ow_base.specs.declared.worlds.FileText.{FileText}
use Rattle.ow_base.specs.declared.worlds.KeyByte.{KeyByte}
use Rattle.ow_base.specs.declared.worlds.PanicLine.{PanicLine}
use Rattle.ow_base.specs.declared.worlds.Program.{Program}
use Rattle.ow_base.specs.declared.worlds.Start.{Start as Started}
use Rattle.world_file.specs.declared.key.Key.{Key}
use Rattle.world_file.specs.declared.key.Key.TheVariants.{Budget, Start}
use Rattle.world_file.specs.WorldLines.{Line, tokens, pieces, key, key_of}
use Rattle.world_file.specs.WorldFacts.{Facts, has_name}
use Rattle.world_file.specs.WorldReasons.{start_place, counted_place}
use Rattle.world_file.specs.WorldRefusals.{IsBuilt}
use Rattle.world_file.specs.WorldReading.{with_line, world_of, nothing_said, read_lines, read_text}
use Rattle.world_file.proofs.WorldPieces.{free-append}
use Rattle.world_file.proofs.WorldNumbers.{number_of_accepts, bytes_eq_self}
use Rattle.world_file.proofs.WorldFields.{free_decimal, free_name, name_accepts, le_is_true, lt_is_true, lt_is_false}
use Rattle.world_file.proofs.WorldSpelled.{three_words, some_number, some_text}
use Rattle.world_file.proofs.WorldPassed.{IsPassed, Reads, reads_line}
use Rattle.world_file.proofs.WorldHead.{at_head, head_read}
use Rattle.world_file.proofs.WorldBlocksRead.{at_program, EndsBlock}
use Rattle.world_file.proofs.WorldBlocks.{NamesApart, not_same, block_read, blocks_read}
use Rattle.world_file.proofs.WorldPanics.{at_panic, start_ends, all_bare, panics_read}
use Rattle.world_file.proofs.WorldStarts.{pages_of, pages_push, pages_front}
use Rattle.world_file.proofs.ProgramsUnique.{AreNamed, all_named}

-- the program at a place is the first of its name
pub place_of_name : (programs : List Program) (i : ℕ) (p : Program) → NamesApart programs → slice_get programs i ≡ Some p → position_or_len (has_name p.name) programs ≡ i
place_of_name programs i p apart found =
    let within = slice_get_within programs i p found in
    let here = get_or_from_slice_get programs i p p found in
    position_or_len_is (has_name p.name) programs i p (omega arith)
    (λ k low. not_same (bytes_eq (get_or programs k p).name p.name) (bytes_eq-Decides (get_or programs k p).name p.name).0
    (λ e. apart k i p low within (e ∙ ap (λ q. q.name) (sym here))))
    (λ low. ap (λ q. bytes_eq q.name p.name) here ∙ bytes_eq_self p.name)

pub found_by_name : (programs : List Program) (i : ℕ) (p : Program) → NamesApart programs → slice_get programs i ≡ Some p → find (has_name p.name) programs ≡ Some p
found_by_name programs i p apart found = find_at (has_name p.name) programs ∙ ap (slice_get programs) (place_of_name programs i p apart found) ∙ found

any_of_name : (programs : List Program) (i : ℕ) (p : Program) → slice_get programs i ≡ Some p → list_any (has_name p.name) programs ≡ true
any_of_name programs i p found =
    list_any_at (has_name p.name) programs i p (slice_get_within programs i p found)
    (ap (λ q. bytes_eq q.name p.name) (get_or_from_slice_get programs i p p found) ∙ bytes_eq_self p.name)

-- what is said where a start line may come
abbrev pub before_start : Key → Shape → (done : List Program) → Option Program → List Started → Facts
before_start last shape done current starts = record { last = Some last; shape = shape; finished = done; opened = current; starts = starts; panics = [] }

-- what is said behind a start line
abbrev pub at_start : Shape → List Program → List Started → Facts
at_start shape programs starts = before_start Start shape programs None starts

-- a start may stand behind a line of this key
abbrev pub Starts : Key → Type 0
Starts k = (count : ℕ) → start_place count (Some k) ≡ counted_place 16 count

-- a start of a program that is named
pub record IsNamedStart (programs : List Program) (program : Program) (start : Started) : Type 0 where
  pub apart : NamesApart programs
  pub found : slice_get programs start.program ≡ Some program
  pub named : IsName program.name
  pub tty : start.tty < 2

start_passed : (k : Key) (shape : Shape) (done : List Program) (o : Option Program) (before : List Started) (l : Line) (p : Program) (start : Started) → Starts k
    → tokens l ≡ codes "start" ∷ p.name ∷ decimal start.tty ∷ [] → IsNamedStart (done ++ option_to_list o) p start → length before < 16
    → start_pages (done ++ option_to_list o) (before ++ start ∷ []) ≤ shape.user_frames → IsPassed (before_start k shape done o before) l
unfolding key_of
start_passed k shape done o before l p start starts w is few fits =
    let programs = done ++ option_to_list o in
    let key : key l ≡ Start = rw w refl in
    let place = starts (length before) in
    let below = lt_is_true (length before) 16 few in
    let some = some_number start.tty (omega (arith, is.tty)) in
    let some_name = some_text p.name is.named.shortest in
    let value = number_of_accepts start.tty (omega (arith, is.tty)) in
    let least = le_is_true 0 start.tty (omega arith) in
    let most = le_is_true start.tty 1 (omega (arith, is.tty)) in
    let name = name_accepts p.name is.named in
    let any = any_of_name programs start.program p is.found in
    let by_name = found_by_name programs start.program p is.apart is.found in
    let same : pages_of programs start ≡ pages_of_found (Some p) = ap pages_of_found is.found in
    let room : start_pages programs before + pages_of_found (Some p) ≤ shape.user_frames = omega (arith, fits, pages_push programs before start, same) in
    let enough = lt_is_false shape.user_frames (start_pages programs before + pages_of_found (Some p)) room in
    record {
      first = refl;
      built = rw key refl;
      word = rw (key, place, below) refl;
      count = rw (key, place, below) refl;
      fields = rw (key, w, some, some_name) refl;
      number = rw (key, w, value, least, most) refl;
      name = rw (key, w, name) refl;
      hex = rw key refl;
      once = rw key refl;
      program = rw (key, w, any) refl;
      order = rw key refl;
      frames = rw (key, w, by_name) enough;
    }

start_said : (k : Key) (shape : Shape) (done : List Program) (o : Option Program) (before : List Started) (l : Line) (p : Program) (start : Started)
    → tokens l ≡ codes "start" ∷ p.name ∷ decimal start.tty ∷ [] → IsNamedStart (done ++ option_to_list o) p start
    → with_line (before_start k shape done o before) l ≡ at_start shape (done ++ option_to_list o) (before ++ start ∷ [])
unfolding with_line key_of
start_said k shape done o before l p start w is =
    let key : key l ≡ Start = rw w refl in
    let value = number_of_accepts start.tty (omega (arith, is.tty)) in
    let place = place_of_name (done ++ option_to_list o) start.program p is.apart is.found in
    rw (key, w, value, place) refl

-- a start line
start_read : (k : Key) (shape : Shape) (done : List Program) (o : Option Program) (programs : List Program) (before : List Started) (p : Program) (start : Started) (rest : List ℕ) (world : World)
    → Starts k → done ++ option_to_list o ≡ programs → IsNamedStart programs p start → length before < 16 → start_pages programs (before ++ start ∷ []) ≤ shape.user_frames
    → Reads (at_start shape programs (before ++ start ∷ [])) rest world → Reads (before_start k shape done o before) (start_line p start ++ rest) world
start_read k shape done o programs before p start rest world starts whole is few fits more =
    let l = spaced (spaced (codes "start") p.name) (decimal start.tty) in
    let here = subst (λ ps. IsNamedStart ps p start) (sym whole) is in
    let room = subst (λ ps. start_pages ps (before ++ start ∷ []) ≤ shape.user_frames) (sym whole) fits in
    let small = is.tty in
    let clean = free_name 32 p.name (omega arith) is.named in
    let w = three_words (codes "start") p.name (decimal start.tty) refl clean (free_decimal 32 start.tty (omega arith) (omega (arith, small))) in
    let free_l = free-append 10 (spaced (codes "start") p.name) (32 ∷ decimal start.tty) (free-append 10 (codes "start") (32 ∷ p.name) refl (free_name 10 p.name (omega arith) is.named)) (free_decimal 10 start.tty (omega arith) (omega (arith, small))) in
    let said = start_said k shape done o before l p start w here ∙ ap (λ ps. at_start shape ps (before ++ start ∷ [])) whole in
    reads_line (before_start k shape done o before) l rest world free_l (start_passed k shape done o before l p start starts w here few room) refl
    (subst (λ f. Reads f rest world) (sym said) more)

-- starts that may all stand
pub record AreStarts (shape : Shape) (programs : List Program) (starts : List Started) : Type 0 where
  pub apart : NamesApart programs
  pub named : AreNamed programs
  pub few : length starts ≤ 16
  pub fits : start_pages programs starts ≤ shape.user_frames

named_start : (shape : Shape) (programs : List Program) (starts : List Started) (text : List ℕ) (start : Started) → AreStarts shape programs starts → (is : IsStart programs text start) → IsNamedStart programs is.program start
named_start shape programs starts text start are is =
    record { apart = are.apart; found = is.found; named = are.named start.program is.program is.found; tty = is.tty }

-- behind some starts, others and what is behind them
starts_more : (shape : Shape) (programs : List Program) (before : List Started) (text : List ℕ) (starts : List Started) (rest : List ℕ) (world : World) → AreTexts (IsStart programs) text starts → AreStarts shape programs (before ++ starts)
    → Reads (at_start shape programs (before ++ starts)) rest world → Reads (at_start shape programs before) (text ++ rest) world
unfolding AreTexts
starts_more shape programs before text [] rest world texts are ends =
    subst (λ t. Reads (at_start shape programs before) (t ++ rest) world) (sym texts) (subst (λ ss. Reads (at_start shape programs ss) rest world) (append-nil before) ends)
starts_more shape programs before text (start ∷ starts) rest world texts are ends =
    let front = texts.0 in
    let others = texts.1 in
    let is = texts.3 in
    let here = start_line is.program start in
    let joined : (before ++ start ∷ []) ++ starts ≡ before ++ start ∷ starts = append_assoc before (start ∷ []) starts in
    let few : length before < 16 = omega (arith, are.few, length-append before (start ∷ starts)) in
    let fits : start_pages programs (before ++ start ∷ []) ≤ shape.user_frames = omega (arith, are.fits, pages_front programs (before ++ start ∷ []) starts, ap (start_pages programs) joined) in
    let more = starts_more shape programs (before ++ start ∷ []) others starts rest world texts.4 (subst (AreStarts shape programs) (sym joined) are)
    (subst (λ ss. Reads (at_start shape programs ss) rest world) (sym joined) ends) in
    let read = start_read Start shape programs None programs before is.program start (others ++ rest) world (λ c. refl) (append-nil programs)
    (named_start shape programs (before ++ start ∷ starts) front start are is) few fits more in
    let spelled : here ++ (others ++ rest) ≡ text ++ rest =
    sym (ap (λ t. t ++ rest) (texts.2 ∙ ap (λ t. t ++ others) is.spelled) ∙ append_assoc here others rest) in
    subst (λ t. Reads (at_start shape programs before) t world) spelled read

-- behind the blocks, the starts and what is behind them
starts_read : (k : Key) (shape : Shape) (done : List Program) (o : Option Program) (programs : List Program) (text : List ℕ) (starts : List Started) (rest : List ℕ) (world : World) → Starts k
    → done ++ option_to_list o ≡ programs → 1 ≤ length starts → AreTexts (IsStart programs) text starts → AreStarts shape programs starts
    → Reads (at_start shape programs starts) rest world → Reads (at_program k shape done o) (text ++ rest) world
unfolding AreTexts
starts_read k shape done o programs text [] rest world may whole some texts are ends = absurd (omega arith)
starts_read k shape done o programs text (start ∷ starts) rest world may whole some texts are ends =
    let others = texts.1 in
    let is = texts.3 in
    let here = start_line is.program start in
    let fits : start_pages programs (start ∷ []) ≤ shape.user_frames = omega (arith, are.fits, pages_front programs (start ∷ []) starts) in
    let read = start_read k shape done o programs [] is.program start (others ++ rest) world may whole
    (named_start shape programs (start ∷ starts) texts.0 start are is) (omega arith) fits (starts_more shape programs (start ∷ []) others starts rest world texts.4 are ends) in
    let spelled : here ++ (others ++ rest) ≡ text ++ rest =
    sym (ap (λ t. t ++ rest) (texts.2 ∙ ap (λ t. t ++ others) is.spelled) ∙ append_assoc here others rest) in
    subst (λ t. Reads (at_program k shape done o) t world) spelled read

front_empty : {A : Type 0} (a b : List A) → a ++ b ≡ [] → a ≡ []
front_empty [] b h = refl
front_empty (x ∷ a) b h = cc

abbrev typing : (tty trap : ℕ) (bytes : List ℕ) → Typed
typing tty trap bytes = record { tty = tty; trap = trap; bytes = bytes }

abbrev typed_bytes : (tty : ℕ) → Typed → List KeyByte
typed_bytes tty t = if t.tty == tty then map (λ b. record { trap = t.trap; byte = b }) t.bytes else []

some_typed : (tty trap : ℕ) (bytes : List ℕ) → tty < 2 → 1 ≤ length bytes → typed_bytes 0 (typing tty trap bytes) ≡ [] → typed_bytes 1 (typing tty trap bytes) ≡ [] → ⊥
some_typed tty trap [] low some none0 none1 = omega arith
some_typed zero trap (b ∷ bytes) low some none0 none1 = cc
some_typed (suc zero) trap (b ∷ bytes) low some none0 none1 = cc
some_typed (suc (suc n)) trap (b ∷ bytes) low some none0 none1 = omega arith

-- nothing is typed where no terminal has a byte
nothing_typed : (typed : List Typed) → AllByRecursion IsTyped typed → typed_on 0 typed ≡ [] → typed_on 1 typed ≡ [] → typed ≡ []
nothing_typed [] all none0 none1 = refl
nothing_typed (t ∷ typed) all none0 none1 =
    absurd (some_typed t.tty t.trap t.bytes all.0.tty all.0.bytes.some (front_empty (typed_bytes 0 t) (typed_on 0 typed) none0) (front_empty (typed_bytes 1 t) (typed_on 1 typed) none1))

no_texts : {A : Type 0} (Is : List ℕ → A → Type 0) (text : List ℕ) (items : List A) → items ≡ [] → AreTexts Is text items → text ≡ []
unfolding AreTexts
no_texts Is text items e are = subst (AreTexts Is text) e are

abbrev with_lists : Shape → List FileText → List Program → List Started → List KeyByte → List KeyByte → List PanicLine → World
with_lists shape files programs starts typed0 typed1 panics = record {
  load = record { shape = shape; files = files; programs = programs; starts = starts };
  typed0 = typed0;
  typed1 = typed1;
  panics = panics;
}

-- a world is what is said up to its end
same_world : (world : World) → IsBuilt world → world_of (at_panic world.load.shape world.load.programs world.load.starts world.panics) ≡ world
same_world world built =
    let shape = world.load.shape in
    let programs = world.load.programs in
    let starts = world.load.starts in
    let panics = world.panics in
    ap (λ ps. with_lists shape [] ps starts [] [] panics) (append-nil programs)
    ∙ ap (λ fs. with_lists shape fs programs starts [] [] panics) (sym built.no_files)
    ∙ ap (λ ts. with_lists shape world.load.files programs starts ts [] panics) (sym built.no_typed0)
    ∙ ap (λ ts. with_lists shape world.load.files programs starts world.typed0 ts panics) (sym built.no_typed1)

-- the blocks and what is behind them
blocks_end : (shape : Shape) (text : List ℕ) (programs : List Program) (rest : List ℕ) (world : World) → 1 ≤ length programs → length programs ≤ 16 → NamesApart programs → AreTexts IsProgram text programs
    → ((last : Key) (before : List Program) (current : Option Program) → EndsBlock last → before ++ option_to_list current ≡ programs → Reads (at_program last shape before current) rest world)
    → Reads (at_head Budget shape) (text ++ rest) world
unfolding AreTexts
blocks_end shape text [] rest world some few apart are more = absurd (omega arith)
blocks_end shape text (program ∷ programs) rest world some few apart are more =
    let front = are.0 in
    let others = are.1 in
    let whole : front ++ (others ++ rest) ≡ text ++ rest = sym (ap (λ t. t ++ rest) are.2 ∙ append_assoc front others rest) in
    subst (λ t. Reads (at_head Budget shape) t world) whole
    (block_read Budget shape [] None front program (others ++ rest) world (λ c. refl) are.3 refl (omega arith)
    (λ last last_ends. blocks_read last shape [] (Some program) others programs rest world last_ends are.4 apart few more))

pub world_accepted : (text : List ℕ) (world : World) → IsWorld text world → IsBuilt world → read_text text ≡ Ok world
unfolding read_text
world_accepted text world is built =
    let shape = world.load.shape in
    let programs = world.load.programs in
    let starts = world.load.starts in
    let are : AreStarts shape programs starts = record { apart = is.program_names; named = all_named is.programs_text programs is.programs; few = is.most_starts; fits = is.frames } in
    let end = is.panics_text ++ line (codes "end") in
    let rest = is.starts_text ++ end in
    let said = world_of (at_panic shape programs starts world.panics) in
    let typed = nothing_typed is.typed (recursion_from_All IsTyped is.typed is.each_typed) (sym is.typed0_is ∙ built.no_typed0) (sym is.typed1_is ∙ built.no_typed1) in
    let no_files = no_texts IsFile is.files_text world.load.files built.no_files is.files in
    let spelled : text ≡ head_lines shape ++ (is.programs_text ++ rest) =
    is.spelled
    ∙ ap (λ fs. head_lines shape ++ (fs ++ (is.programs_text ++ (is.starts_text ++ (flat_map type_line is.typed ++ (is.panics_text ++ line (codes "end"))))))) no_files
    ∙ ap (λ ts. head_lines shape ++ (is.programs_text ++ (is.starts_text ++ (flat_map type_line ts ++ end)))) typed in
    let ends = panics_read Start shape programs starts [] is.panics_text world.panics start_ends is.panics (all_bare world.panics built.no_damages built.no_agains) is.most_panics is.traps in
    let read = head_read shape (is.programs_text ++ rest) said is.shape
    (blocks_end shape is.programs_text programs rest said is.some_program is.most_programs is.program_names is.programs
    (λ last before current may whole. starts_read last shape before current programs is.starts_text starts end said may.starts whole is.some_start is.starts are ends)) in
    let size = lt_is_false 1048576 (length text) is.longest in
    rw size (ap (λ t. read_lines nothing_said 0 (pieces 10 t)) spelled ∙ read 0 ∙ ap Ok (same_world world built))
