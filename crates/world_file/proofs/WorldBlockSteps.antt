-- Program blocks, line by line, from the lines that were read.
use Rattle.std.proofs.Common.{◌≡◌, ℕ, ◌^◌, ◌+◌, ◌<◌, ◌≤◌, Bool, true, false, not, nat_le, nat_lt, List, [], ◌∷◌, ◌++◌, length, map, Option, Some, codes, bytes_eq, option_to_list, arith, ap, ◌∙◌, sym, refl, subst, append_assoc, append-nil, length-append, if◌then◌else◌}
use Rattle.std.specs.List.{flat_map, concat, list_all, list_any}
use Rattle.std.proofs.lemmas.Grind.{flat_map-append}
use Rattle.std.proofs.lemmas.List.Folds.{concat-append, list_any_at}
use Rattle.std.proofs.lemmas.List.Elements.{All-push, All-from_recursion}
use Rattle.std.proofs.lemmas.List.Quantifiers.{all_pairs_push}
use Rattle.ow_base.specs.Lines.{line, spaced, hex8}
use Rattle.ow_base.specs.World.{AreTexts, IsLineful, AreWordLines, IsProgram, word_line, head_lines}
use Rattle.ow_base.specs.declared.machine.Shape.{Shape}
use Rattle.ow_base.specs.declared.worlds.Program.{Program}
use Rattle.world_file.specs.declared.key.Key.{Key}
use Rattle.world_file.specs.declared.key.Key.TheVariants.{Program as ProgramKey, Code, Data}
use Rattle.world_file.specs.WorldLines.{Line, tokens, token_at, fields, key, is_name, is_word}
use Rattle.world_file.specs.WorldFacts.{Facts, has_name}
use Rattle.world_file.specs.WorldReasons.{place_of, counted_place, is_taken, has_fields, has_too_many_words, has_no_name, has_no_word, comes_twice, exceeds}
use Rattle.world_file.specs.declared.reasons.Place.TheVariants.{Free, Taken}
use Rattle.world_file.specs.WorldReading.{with_line}
use Rattle.world_file.proofs.WorldPieces.{joined, behind}
use Rattle.world_file.proofs.WorldNumbers.{bytes_eq_self}
use Rattle.world_file.proofs.WorldFields.{name_reads, le_true, lt_true, lt_false}
use Rattle.world_file.proofs.WorldSpelled.{word_text, count_of_words, spelled_words, spelled_two}
use Rattle.world_file.proofs.WorldPassed.{IsPassed}
use Rattle.world_file.proofs.WorldBlocksRead.{at_program, Opens, block, program_said, code_said, data_said}
use Rattle.world_file.proofs.WorldBlocks.{NamesApart}
use Rattle.world_file.proofs.WorldKeys.{neither, not_false, first_word, words_split, words_one, words_found}
use Rattle.world_file.proofs.WorldSaid.{AreBlocks, IsOpen, SoFar, may_stand, field_count}
use Rattle.world_file.proofs.WorldSaid.SoFar.{ToProgram, ToCode, ToData}

-- one more text behind those of other items
pub texts_more : {A : Type 0} (Is : List ℕ → A → Type 0) (text : List ℕ) (items : List A) (more : List ℕ) (item : A) → AreTexts Is text items → Is more item → AreTexts Is (text ++ more) (items ++ item ∷ [])
unfolding AreTexts
texts_more Is text [] more item are is = (more, [], ap (λ t. t ++ more) are ∙ sym (append-nil more), is, refl)
texts_more Is text (first ∷ items) more item are is =
    (are.0, are.1 ++ more, ap (λ t. t ++ more) are.2 ∙ append_assoc are.0 are.1 more, are.3, texts_more Is are.1 items more item are.4 is)

apart_more : (done : List Program) (p : Program) → NamesApart done → list_any (has_name p.name) done ≡ false → NamesApart (done ++ p ∷ [])
apart_more done p apart fresh =
    all_pairs_push (λ (a b : Program). a.name ≡ b.name → ⊥) done p apart
    (λ k d low e. let again = list_any_at (has_name p.name) done k d low (ap (λ n. bytes_eq n p.name) e ∙ bytes_eq_self p.name) in cc)

-- a block that may end here
pub closed : (text : List ℕ) (last : Key) (shape : Shape) (done : List Program) (program : Program) → IsOpen text last shape done program → 1 ≤ length program.code → AreBlocks text shape (done ++ program ∷ [])
closed text last shape done program is some =
    let l = line (spaced (codes "program") program.name) in
    let whole = l ++ (is.code_text ++ is.values_text) in
    record {
      blocks = is.blocks.blocks ++ whole;
      spelled = is.spelled ∙ ap (λ t. t ++ whole) is.blocks.spelled ∙ append_assoc (head_lines shape) is.blocks.blocks whole;
      head = is.blocks.head;
      each = texts_more IsProgram is.blocks.blocks done whole program is.blocks.each
          (record { code_text = is.code_text; values_text = is.values_text; spelled = refl; named = is.named; code = is.code; some_code = some; values = is.values });
      apart = apart_more done program is.blocks.apart is.fresh;
      few = omega (arith, is.room, length-append done (program ∷ []));
    }

-- a program line
pub counted_free : (most count : ℕ) → counted_place most count ≡ Free → count < most
counted_free most count h = lt_true count most (below (nat_lt count most) h)
  where
    below : (b : Bool) → (if b then Free else Taken) ≡ Free → b ≡ true
    below true h = refl
    below false h = cc

no_lines : (key : List ℕ) → AreWordLines key [] []
no_lines key = record { lines = []; spelled = refl; joined = refl; sizes = All-from_recursion IsLineful [] tt; longest = omega arith }

pub program_step : (text : List ℕ) (f : Facts) (l : Line) (k : Key) (shape : Shape) (done : List Program) (o : Option Program) → Opens k → AreBlocks text shape (done ++ option_to_list o)
    → f ≡ at_program k shape done o → key l ≡ ProgramKey → IsPassed f l → SoFar (text ++ line l) (with_line f l)
program_step text f l k shape done o opens blocks e key_is is =
    let before = at_program k shape done o in
    let p = subst (λ f. IsPassed f l) e is in
    let w = words_one l (codes "program") (first_word l ProgramKey key_is) (field_count before l ProgramKey key_is p) in
    let name = token_at 1 l in
    let programs = done ++ option_to_list o in
    let named = name_reads name (not_false (is_name name) (subst (λ k. has_no_name k l ≡ false) key_is p.name)) in
    let fresh = subst (λ k. comes_twice k before l ≡ false) key_is p.once in
    let free = subst (λ k. place_of k before ≡ Free) key_is (may_stand before l p) in
    let room = counted_free 16 (length programs) (sym (opens (length programs)) ∙ free) in
    ToProgram shape programs (block name [] []) (record {
      before = text;
      blocks = blocks;
      room = room;
      fresh = fresh;
      named = named;
      code_text = [];
      values_text = [];
      spelled = ap (λ t. text ++ t) (ap line (spelled_two l (codes "program") name w) ∙ sym (append-nil (line (spaced (codes "program") name))));
      code = no_lines (codes "code");
      values = no_lines (codes "data");
      has_come = (refl, refl);
    }) (ap (λ f. with_line f l) e ∙ program_said k shape done o l name w)

-- lines of words
behind_words : (ws : List ℕ) → behind 32 (map hex8 ws) ≡ flat_map word_text ws
behind_words [] = refl
behind_words (w ∷ ws) = ap (λ t. word_text w ++ t) (behind_words ws)

pub spelled_word_line : (l : Line) (word ws : List ℕ) → tokens l ≡ word ∷ map hex8 ws → l ≡ word ++ flat_map word_text ws
spelled_word_line l word ws w = spelled_words l ∙ ap (joined 32) w ∙ ap (λ t. word ++ t) (behind_words ws)

abbrev IsWordLine : (before : ℕ) (word : List ℕ) (l : Line) → Type 0
IsWordLine before word l = (ws : List ℕ) × (tokens l ≡ word ∷ map hex8 ws) × IsLineful ws × (before + length ws ≤ 65536)

word_line_found : (f : Facts) (l : Line) (before : ℕ) (word : List ℕ) (k : Key) → key l ≡ k → token_at 0 l ≡ word → has_fields k (length (fields l)) ≡ nat_le 1 (length (fields l))
    → has_too_many_words k f l ≡ exceeds before (length (fields l)) → has_no_word k l ≡ not (list_all is_word (fields l)) → IsPassed f l → IsWordLine before word l
word_line_found f l before word k e first some many hex is =
    let here = length (fields l) in
    let are = not_false (list_all is_word (fields l)) (sym hex ∙ ap (λ k. has_no_word k l) (sym e) ∙ is.hex) in
    let found = words_found (fields l) are in
    let least = le_true 1 here (sym some ∙ field_count f l k e is) in
    let few = (neither (is_taken (place_of (key l) f)) (has_too_many_words (key l) f l) is.count).1 in
    let sizes = neither (nat_lt 16 here) (nat_lt 65536 (before + here)) (sym many ∙ ap (λ k. has_too_many_words k f l) (sym e) ∙ few) in
    let most = lt_false 16 here sizes.0 in
    let whole = lt_false 65536 (before + here) sizes.1 in
    let count : here ≡ length found.0 = ap length found.1 ∙ count_of_words found.0 in (
      found.0,
      words_split l ∙ ap (λ fs. token_at 0 l ∷ fs) found.1 ∙ ap (λ x. x ∷ map hex8 found.0) first,
      record { some = omega arith; most = omega arith; each = All-from_recursion (λ w. w < 2 ^ 32) found.0 found.2 },
      omega arith,
    )

lines_more : (key text words ws : List ℕ) → AreWordLines key text words → IsLineful ws → length words + length ws ≤ 65536 → AreWordLines key (text ++ word_line key ws) (words ++ ws)
lines_more key text words ws are is few =
    record {
      lines = are.lines ++ ws ∷ [];
      spelled = ap (λ t. t ++ word_line key ws) are.spelled ∙ ap (λ t. flat_map (word_line key) are.lines ++ t) (sym (append-nil (word_line key ws))) ∙ sym (flat_map-append (word_line key) are.lines (ws ∷ []));
      joined = ap (λ w. w ++ ws) are.joined ∙ ap (λ t. concat are.lines ++ t) (sym (append-nil ws)) ∙ sym (concat-append are.lines (ws ∷ []));
      sizes = All-push IsLineful are.lines ws are.sizes is;
      longest = omega (arith, few, length-append words ws);
    }

grown : (a b c d e : List ℕ) → (a ++ (b ++ (c ++ d))) ++ e ≡ a ++ (b ++ (c ++ (d ++ e)))
grown a b c d e = simp append_assoc

pub code_step : (text : List ℕ) (f : Facts) (l : Line) (k : Key) (shape : Shape) (done : List Program) (program : Program) (opened : IsOpen text k shape done program) → program.values ≡ [] → opened.values_text ≡ []
    → f ≡ at_program k shape done (Some program) → key l ≡ Code → IsPassed f l → SoFar (text ++ line l) (with_line f l)
code_step text f l k shape done program opened no_values no_text e key_is is =
    let before = at_program k shape done (Some program) in
    let p = subst (λ f. IsPassed f l) e is in
    let found = word_line_found before l (length program.code) (codes "code") Code key_is (first_word l Code key_is) refl refl refl p in
    let ws = found.0 in
    let name = program.name in
    let longer = length-append program.code ws in
    let spelled = spelled_word_line l (codes "code") ws found.1 in
    let first = line (spaced (codes "program") name) in
    let code_text = opened.code_text ++ word_line (codes "code") ws in
    ToCode shape done (block name (program.code ++ ws) program.values) (record {
      before = opened.before;
      blocks = opened.blocks;
      room = opened.room;
      fresh = opened.fresh;
      named = opened.named;
      code_text = code_text;
      values_text = [];
      spelled = ap (λ t. t ++ line l) opened.spelled ∙ ap (λ t. (opened.before ++ (first ++ (opened.code_text ++ t))) ++ line l) no_text
          ∙ grown opened.before first opened.code_text [] (line l) ∙ ap (λ l. opened.before ++ (first ++ (opened.code_text ++ line l))) spelled
          ∙ ap (λ t. opened.before ++ (first ++ t)) (sym (append-nil code_text));
      code = lines_more (codes "code") opened.code_text program.code ws opened.code found.2 found.3;
      values = subst (λ v. AreWordLines (codes "data") [] v) (sym no_values) (no_lines (codes "data"));
      has_come = (omega (arith, found.2.some, longer), no_values, refl);
    }) (ap (λ f. with_line f l) e ∙ code_said k shape done name program.code program.values l ws found.1 found.2)

pub data_step : (text : List ℕ) (f : Facts) (l : Line) (k : Key) (shape : Shape) (done : List Program) (program : Program) → IsOpen text k shape done program → 1 ≤ length program.code
    → f ≡ at_program k shape done (Some program) → key l ≡ Data → IsPassed f l → SoFar (text ++ line l) (with_line f l)
data_step text f l k shape done program opened some e key_is is =
    let before = at_program k shape done (Some program) in
    let p = subst (λ f. IsPassed f l) e is in
    let found = word_line_found before l (length program.values) (codes "data") Data key_is (first_word l Data key_is) refl refl refl p in
    let ws = found.0 in
    let name = program.name in
    let spelled = spelled_word_line l (codes "data") ws found.1 in
    let first = line (spaced (codes "program") name) in
    ToData shape done (block name program.code (program.values ++ ws)) (record {
      before = opened.before;
      blocks = opened.blocks;
      room = opened.room;
      fresh = opened.fresh;
      named = opened.named;
      code_text = opened.code_text;
      values_text = opened.values_text ++ word_line (codes "data") ws;
      spelled = ap (λ t. t ++ line l) opened.spelled ∙ grown opened.before first opened.code_text opened.values_text (line l)
          ∙ ap (λ l. opened.before ++ (first ++ (opened.code_text ++ (opened.values_text ++ line l)))) spelled;
      code = opened.code;
      values = lines_more (codes "data") opened.values_text program.values ws opened.values found.2 found.3;
      has_come = some;
    }) (ap (λ f. with_line f l) e ∙ data_said k shape done name program.code program.values l ws found.1 found.2)
