-- Program blocks are read, one behind the other.
use Rattle.std.proofs.Common.{◌≡◌, ℕ, ◌^◌, ◌+◌, ◌<◌, ◌≤◌, true, false, List, [], ◌∷◌, ◌++◌, length, map, Option, Some, codes, option_to_list, arith, sym, refl, subst, append_assoc, append-nil, length-append}
use Rattle.std.specs.List.{AllByRecursion, flat_map, concat, list_any}
use Rattle.std.proofs.lemmas.List.Elements.{recursion_from_All}
use Rattle.ow_base.specs.Lines.{hex8}
use Rattle.ow_base.specs.World.{IsName, IsLineful, word_line}
use Rattle.ow_base.specs.declared.machine.Shape.{Shape}
use Rattle.ow_base.specs.declared.worlds.World.{World}
use Rattle.ow_base.specs.declared.worlds.Program.{Program}
use Rattle.world_file.specs.declared.key.Key.{Key}
use Rattle.world_file.specs.declared.key.Key.TheVariants.{Program as ProgramKey, Code, Data}
use Rattle.world_file.specs.WorldLines.{Line, tokens, key, key_of, words_of}
use Rattle.world_file.specs.WorldFacts.{Facts, has_name}
use Rattle.world_file.specs.WorldReasons.{program_place, start_place, code_place, data_place, counted_place}
use Rattle.world_file.specs.declared.reasons.Place.TheVariants.{Free}
use Rattle.world_file.specs.WorldReading.{with_line}
use Rattle.world_file.proofs.WorldPieces.{free, free-append}
use Rattle.world_file.proofs.WorldFields.{name_accepts, le_is_true, lt_is_true, lt_is_false}
use Rattle.world_file.proofs.WorldSpelled.{word_text, word_line_words, free_words, some_text, some_words, are_words, values_of_words, count_of_words}
use Rattle.world_file.proofs.WorldPassed.{IsPassed, Reads, reads_line}

-- what is said among the program blocks
abbrev pub at_program : Key → Shape → (done : List Program) → Option Program → Facts
at_program last shape done current = record { last = Some last; shape = shape; finished = done; opened = current; starts = []; panics = [] }

-- a program may begin behind a line of this key
abbrev pub Opens : Key → Type 0
Opens k = (count : ℕ) → program_place count (Some k) ≡ counted_place 16 count

-- a block may end with a line of this key
pub record EndsBlock (k : Key) : Type 0 where
  pub opens : Opens k
  pub starts : (count : ℕ) → start_place count (Some k) ≡ counted_place 16 count

abbrev pub block : (name code values : List ℕ) → Program
block name code values = record { name = name; code = code; values = values }

pub program_passed : (k : Key) (shape : Shape) (done : List Program) (o : Option Program) (l : Line) (name : List ℕ) → Opens k → tokens l ≡ codes "program" ∷ name ∷ [] → IsName name
    → list_any (has_name name) (done ++ option_to_list o) ≡ false → length (done ++ option_to_list o) < 16 → IsPassed (at_program k shape done o) l
unfolding key_of
program_passed k shape done o l name opens w named fresh room =
    let key : key l ≡ ProgramKey = rw w refl in
    let place = opens (length (done ++ option_to_list o)) in
    let below = lt_is_true (length (done ++ option_to_list o)) 16 room in
    let some = some_text name named.shortest in
    let is = name_accepts name named in
    record {
      first = refl;
      built = rw key refl;
      word = rw (key, place, below) refl;
      count = rw (key, place, below) refl;
      fields = rw (key, w, some) refl;
      number = rw key refl;
      name = rw (key, w, is) refl;
      hex = rw key refl;
      once = rw (key, w) fresh;
      program = rw key refl;
      order = rw key refl;
      frames = rw key refl;
    }

pub program_said : (k : Key) (shape : Shape) (done : List Program) (o : Option Program) (l : Line) (name : List ℕ) → tokens l ≡ codes "program" ∷ name ∷ []
    → with_line (at_program k shape done o) l ≡ at_program ProgramKey shape (done ++ option_to_list o) (Some (block name [] []))
unfolding with_line key_of
program_said k shape done o l name w =
    let key : key l ≡ ProgramKey = rw w refl in
    rw (key, w) refl

-- lines of code
code_passed : (k : Key) (shape : Shape) (done : List Program) (name code values : List ℕ) (l : Line) (ws : List ℕ) → code_place (Some k) ≡ Free → tokens l ≡ codes "code" ∷ map hex8 ws
    → IsLineful ws → length code + length ws ≤ 65536 → IsPassed (at_program k shape done (Some (block name code values))) l
unfolding key_of
code_passed k shape done name code values l ws place w is room =
    let key : key l ≡ Code = rw w refl in
    let count = count_of_words ws in
    let here = lt_is_false 16 (length ws) is.most in
    let whole = lt_is_false 65536 (length code + length ws) room in
    let least = le_is_true 1 (length ws) is.some in
    let some = some_words ws in
    let are = are_words ws (recursion_from_All (λ w. w < 2 ^ 32) ws is.each) in
    record {
      first = refl;
      built = rw key refl;
      word = rw (key, place) refl;
      count = rw (key, place, w, count, here, whole) refl;
      fields = rw (key, w, count, least, some) refl;
      number = rw key refl;
      name = rw key refl;
      hex = rw (key, w, are) refl;
      once = rw key refl;
      program = rw key refl;
      order = rw key refl;
      frames = rw key refl;
    }

pub code_said : (k : Key) (shape : Shape) (done : List Program) (name code values : List ℕ) (l : Line) (ws : List ℕ) → tokens l ≡ codes "code" ∷ map hex8 ws → IsLineful ws
    → with_line (at_program k shape done (Some (block name code values))) l ≡ at_program Code shape done (Some (block name (code ++ ws) values))
unfolding with_line key_of words_of
code_said k shape done name code values l ws w is =
    let key : key l ≡ Code = rw w refl in
    let are = values_of_words ws (recursion_from_All (λ w. w < 2 ^ 32) ws is.each) in
    rw (key, w, are) refl

-- lines of data
data_passed : (k : Key) (shape : Shape) (done : List Program) (name code values : List ℕ) (l : Line) (ws : List ℕ) → data_place (Some k) ≡ Free → tokens l ≡ codes "data" ∷ map hex8 ws
    → IsLineful ws → length values + length ws ≤ 65536 → IsPassed (at_program k shape done (Some (block name code values))) l
unfolding key_of
data_passed k shape done name code values l ws place w is room =
    let key : key l ≡ Data = rw w refl in
    let count = count_of_words ws in
    let here = lt_is_false 16 (length ws) is.most in
    let whole = lt_is_false 65536 (length values + length ws) room in
    let least = le_is_true 1 (length ws) is.some in
    let some = some_words ws in
    let are = are_words ws (recursion_from_All (λ w. w < 2 ^ 32) ws is.each) in
    record {
      first = refl;
      built = rw key refl;
      word = rw (key, place) refl;
      count = rw (key, place, w, count, here, whole) refl;
      fields = rw (key, w, count, least, some) refl;
      number = rw key refl;
      name = rw key refl;
      hex = rw (key, w, are) refl;
      once = rw key refl;
      program = rw key refl;
      order = rw key refl;
      frames = rw key refl;
    }

pub data_said : (k : Key) (shape : Shape) (done : List Program) (name code values : List ℕ) (l : Line) (ws : List ℕ) → tokens l ≡ codes "data" ∷ map hex8 ws → IsLineful ws
    → with_line (at_program k shape done (Some (block name code values))) l ≡ at_program Data shape done (Some (block name code (values ++ ws)))
unfolding with_line key_of words_of
data_said k shape done name code values l ws w is =
    let key : key l ≡ Data = rw w refl in
    let are = values_of_words ws (recursion_from_All (λ w. w < 2 ^ 32) ws is.each) in
    rw (key, w, are) refl

-- the key of the last of some lines
abbrev pub last_of : Key → List (List ℕ) → Key → Key
last_of k [] last = last
last_of k (ws ∷ lines) last = k

same_last : (k : Key) (lines : List (List ℕ)) → last_of k lines k ≡ k
same_last k [] = refl
same_last k (ws ∷ lines) = refl

free_word_line : (key ws : List ℕ) → free 10 key ≡ true → free 10 (key ++ flat_map word_text ws) ≡ true
free_word_line key ws clean = free-append 10 key (flat_map word_text ws) clean (free_words ws)

pub code_read : (k : Key) (shape : Shape) (done : List Program) (name code values : List ℕ) (lines : List (List ℕ)) (rest : List ℕ) (world : World) → code_place (Some k) ≡ Free
    → AllByRecursion IsLineful lines → length code + length (concat lines) ≤ 65536
    → Reads (at_program (last_of Code lines k) shape done (Some (block name (code ++ concat lines) values))) rest world
    → Reads (at_program k shape done (Some (block name code values))) (flat_map (word_line (codes "code")) lines ++ rest) world
code_read k shape done name code values [] rest world place is room more =
    subst (λ c. Reads (at_program k shape done (Some (block name c values))) rest world) (append-nil code) more
code_read k shape done name code values (ws ∷ lines) rest world place is room more =
    let l = codes "code" ++ flat_map word_text ws in
    let others = flat_map (word_line (codes "code")) lines ++ rest in
    let w = word_line_words (codes "code") ws refl in
    let long = length-append ws (concat lines) in
    let wider = length-append code ws in
    let p = code_passed k shape done name code values l ws place w is.0 (omega arith) in
    let s = code_said k shape done name code values l ws w is.0 in
    let last : Reads (at_program (last_of Code lines Code) shape done (Some (block name ((code ++ ws) ++ concat lines) values))) rest world =
    rw (same_last Code lines, append_assoc code ws (concat lines)) more in
    let next = code_read Code shape done name (code ++ ws) values lines rest world refl is.1 (omega arith) last in
    subst (λ t. Reads (at_program k shape done (Some (block name code values))) t world) (sym (append_assoc (word_line (codes "code") ws) (flat_map (word_line (codes "code")) lines) rest))
    (reads_line (at_program k shape done (Some (block name code values))) l others world (free_word_line (codes "code") ws refl) p refl
    (subst (λ f. Reads f others world) (sym s) next))

pub data_read : (k : Key) (shape : Shape) (done : List Program) (name code values : List ℕ) (lines : List (List ℕ)) (rest : List ℕ) (world : World) → data_place (Some k) ≡ Free
    → AllByRecursion IsLineful lines → length values + length (concat lines) ≤ 65536
    → Reads (at_program (last_of Data lines k) shape done (Some (block name code (values ++ concat lines)))) rest world
    → Reads (at_program k shape done (Some (block name code values))) (flat_map (word_line (codes "data")) lines ++ rest) world
data_read k shape done name code values [] rest world place is room more =
    subst (λ c. Reads (at_program k shape done (Some (block name code c))) rest world) (append-nil values) more
data_read k shape done name code values (ws ∷ lines) rest world place is room more =
    let l = codes "data" ++ flat_map word_text ws in
    let others = flat_map (word_line (codes "data")) lines ++ rest in
    let w = word_line_words (codes "data") ws refl in
    let long = length-append ws (concat lines) in
    let wider = length-append values ws in
    let p = data_passed k shape done name code values l ws place w is.0 (omega arith) in
    let s = data_said k shape done name code values l ws w is.0 in
    let last : Reads (at_program (last_of Data lines Data) shape done (Some (block name code ((values ++ ws) ++ concat lines)))) rest world =
    rw (same_last Data lines, append_assoc values ws (concat lines)) more in
    let next = data_read Data shape done name code (values ++ ws) lines rest world refl is.1 (omega arith) last in
    subst (λ t. Reads (at_program k shape done (Some (block name code values))) t world) (sym (append_assoc (word_line (codes "data") ws) (flat_map (word_line (codes "data")) lines) rest))
    (reads_line (at_program k shape done (Some (block name code values))) l others world (free_word_line (codes "data") ws refl) p refl
    (subst (λ f. Reads f others world) (sym s) next))
