-- The programs and the starts of a text are told one way.
use Rattle.std.proofs.Common.{◌≡◌, ℕ, zero, suc, ◌<◌, true, List, [], ◌∷◌, ◌++◌, get_or, slice_get, AllPairs, Some, codes, decimal, arith, ap, ◌∙◌, sym, refl, subst, append_assoc}
use Rattle.std.specs.List.{concat}
use Rattle.std.proofs.lemmas.List.{append_cancel_left}
use Rattle.std.proofs.lemmas.List.Elements.{recursion_from_All}
use Rattle.std.proofs.lemmas.Option.{get_or_from_slice_get, slice_get_within, same_Some}
use Rattle.ow_base.specs.Lines.{line, spaced}
use Rattle.ow_base.specs.World.{IsName, AreTexts, word_line, IsLineful, AreWordLines, IsProgram, IsStart}
use Rattle.ow_base.specs.declared.worlds.Program.{Program}
use Rattle.ow_base.specs.declared.worlds.Start.{Start as Started}
use Rattle.world_file.proofs.WorldPieces.{free, free-append}
use Rattle.world_file.proofs.LinesUnique.{AreSame, cut_unique, line_unique, decimal_unique}
use Rattle.world_file.proofs.WorldFields.{free_decimal, free_name}
use Rattle.world_file.proofs.TextsUnique.{opening, Anything, AreUnique, three, opening_by, texts_unique, lines_are}
use Rattle.world_file.proofs.FilesUnique.{named_line_unique, IsWordLine, word_lines_unique}

abbrev pub code_key : ℕ
code_key = opening (codes "code")

abbrev pub data_key : ℕ
data_key = opening (codes "data")

code_lines : AreUnique (IsWordLine (codes "code")) code_key Anything
code_lines = word_lines_unique (codes "code") 99 111 (codes "de") refl refl

data_lines : AreUnique (IsWordLine (codes "data")) data_key Anything
data_lines = word_lines_unique (codes "data") 100 97 (codes "ta") refl refl

word_lines_are : (key text words : List ℕ) (is : AreWordLines key text words) → AreTexts (IsWordLine key) text is.lines
word_lines_are key text words is =
    subst (λ t. AreTexts (IsWordLine key) t is.lines) (sym is.spelled) (lines_are (word_line key) IsLineful is.lines (recursion_from_All IsLineful is.lines is.sizes))

words_unique : (key : List ℕ) (text_v text_w vs ws r t : List ℕ) → AreUnique (IsWordLine key) (opening key) Anything → AreWordLines key text_v vs → AreWordLines key text_w ws
    → (opening r ≡ opening key → ⊥) → (opening t ≡ opening key → ⊥) → text_v ++ r ≡ text_w ++ t → AreSame vs ws r t
words_unique key text_v text_w vs ws r t unique is_v is_w end_r end_t e =
    let same = texts_unique (IsWordLine key) (opening key) Anything unique text_v text_w is_v.lines is_w.lines r t (word_lines_are key text_v vs is_v) (word_lines_are key text_w ws is_w) end_r end_t tt tt e in
    (is_v.joined ∙ ap concat same.0 ∙ sym is_w.joined, same.1)

abbrev IsNoCode : ℕ → Type 0
IsNoCode k = k ≡ code_key → ⊥

-- behind a program no line of code or data stands
abbrev pub IsNoWordLine : ℕ → Type 0
IsNoWordLine k = IsNoCode k × (k ≡ data_key → ⊥)

no_code : (text words r : List ℕ) → AreWordLines (codes "data") text words → IsNoCode (opening r) → IsNoCode (opening (text ++ r))
no_code text words r is end =
    opening_by (IsWordLine (codes "data")) data_key IsNoCode data_lines.opens text is.lines r (word_lines_are (codes "data") text words is) (λ e. omega (arith, e)) end

abbrev program_with : (name code values : List ℕ) → Program
program_with name code values = record { name = name; code = code; values = values }

program_one : (text_a text_b : List ℕ) (a b : Program) (r t : List ℕ) → IsProgram text_a a → IsProgram text_b b → IsNoWordLine (opening r) → IsNoWordLine (opening t) → text_a ++ r ≡ text_b ++ t → AreSame a b r t
program_one text_a text_b a b r t is_a is_b may_r may_t e =
    let name_a = line (spaced (codes "program") a.name) in
    let name_b = line (spaced (codes "program") b.name) in
    let values_a = is_a.values_text ++ r in
    let values_b = is_b.values_text ++ t in
    let whole : name_a ++ (is_a.code_text ++ values_a) ≡ name_b ++ (is_b.code_text ++ values_b) =
    sym (three name_a is_a.code_text is_a.values_text r) ∙ ap (λ x. x ++ r) (sym is_a.spelled) ∙ e ∙ ap (λ x. x ++ t) is_b.spelled ∙ three name_b is_b.code_text is_b.values_text t in
    let name = named_line_unique (codes "program") a.name b.name (is_a.code_text ++ values_a) (is_b.code_text ++ values_b) refl is_a.named is_b.named whole in
    let end_a = no_code is_a.values_text a.values r is_a.values may_r.0 in
    let end_b = no_code is_b.values_text b.values t is_b.values may_t.0 in
    let code = words_unique (codes "code") is_a.code_text is_b.code_text a.code b.code values_a values_b code_lines is_a.code is_b.code end_a end_b name.1 in
    let values = words_unique (codes "data") is_a.values_text is_b.values_text a.values b.values r t data_lines is_a.values is_b.values may_r.1 may_t.1 code.1 in
    let same : a ≡ b = ap (λ n. program_with n a.code a.values) name.0 ∙ ap (λ c. program_with b.name c a.values) code.0 ∙ ap (λ v. program_with b.name b.code v) values.0 in
    (same, values.1)

abbrev pub program_key : ℕ
program_key = opening (codes "program")

pub programs_unique : AreUnique IsProgram program_key IsNoWordLine
programs_unique = record {
  opens = λ text program r is. ap (λ t. opening (t ++ r)) is.spelled;
  follows = (λ e. omega (arith, e), λ e. omega (arith, e));
  one = program_one;
}

-- programs of different names stand at one place each
abbrev pub AreNamedApart : List Program → Type 0
AreNamedApart programs = AllPairs (λ (a b : Program). a.name ≡ b.name → ⊥) programs

same_place : (programs : List Program) (i j : ℕ) (p q : Program) → AreNamedApart programs → slice_get programs i ≡ Some p → slice_get programs j ≡ Some q → p.name ≡ q.name → i ≡ j
same_place programs i j p q apart found_i found_j e =
    let is_i : get_or programs i p ≡ p = get_or_from_slice_get programs i p p found_i in
    let is_j : get_or programs j p ≡ q = get_or_from_slice_get programs j q p found_j in
    let within_i = slice_get_within programs i p found_i in
    let within_j = slice_get_within programs j q found_j in
    let names : (get_or programs i p).name ≡ (get_or programs j p).name = ap (λ (s : Program). s.name) is_i ∙ e ∙ ap (λ (s : Program). s.name) (sym is_j) in
    let not_before : i < j → ⊥ = λ less. apart i j p less within_j names in
    let not_behind : j < i → ⊥ = λ less. apart j i p less within_i (sym names) in
    grind (arith, not_before, not_behind)

abbrev start_with : (program tty : ℕ) → Started
start_with program tty = record { program = program; tty = tty }

start_parts : (name digits : List ℕ) → spaced (spaced (codes "start") name) digits ≡ codes "start " ++ (name ++ (32 ∷ digits))
start_parts name digits = append_assoc (codes "start ") name (32 ∷ digits)

free_start : (name : List ℕ) (tty : ℕ) → IsName name → tty < 2 → free 10 (spaced (spaced (codes "start") name) (decimal tty)) ≡ true
free_start name tty named small =
    free-append 10 (codes "start " ++ name) (32 ∷ decimal tty) (free-append 10 (codes "start ") name refl (free_name 10 name (omega arith) named)) (free_decimal 10 tty (omega arith) (omega arith))

start_line_unique : (x y : List ℕ) (m n : ℕ) (r t : List ℕ) → IsName x → IsName y → m < 2 → n < 2
    → line (spaced (spaced (codes "start") x) (decimal m)) ++ r ≡ line (spaced (spaced (codes "start") y) (decimal n)) ++ t → (x ≡ y) × (m ≡ n) × (r ≡ t)
start_line_unique x y m n r t is_x is_y small_m small_n e =
    let same = line_unique (spaced (spaced (codes "start") x) (decimal m)) (spaced (spaced (codes "start") y) (decimal n)) r t (free_start x m is_x small_m) (free_start y n is_y small_n) e in
    let fields = append_cancel_left (codes "start ") (x ++ (32 ∷ decimal m)) (y ++ (32 ∷ decimal n)) (sym (start_parts x (decimal m)) ∙ same.0 ∙ start_parts y (decimal n)) in
    let cut = cut_unique 32 x y (decimal m) (decimal n) (free_name 32 x (omega arith) is_x) (free_name 32 y (omega arith) is_y) fields in
    (cut.0, decimal_unique m n (omega arith) (omega arith) cut.1, same.1)

-- the names of all programs are names
abbrev pub AreNamed : List Program → Type 0
AreNamed programs = (i : ℕ) (p : Program) → slice_get programs i ≡ Some p → IsName p.name

start_one : (programs : List Program) → AreNamed programs → AreNamedApart programs → (text_a text_b : List ℕ) (a b : Started) (r t : List ℕ) → IsStart programs text_a a → IsStart programs text_b b
    → text_a ++ r ≡ text_b ++ t → AreSame a b r t
start_one programs named apart text_a text_b a b r t is_a is_b e =
    let p = is_a.program in
    let q = is_b.program in
    let same = start_line_unique p.name q.name a.tty b.tty r t (named a.program p is_a.found) (named b.program q is_b.found) is_a.tty is_b.tty (ap (λ x. x ++ r) (sym is_a.spelled) ∙ e ∙ ap (λ x. x ++ t) is_b.spelled) in
    let place = same_place programs a.program b.program p q apart is_a.found is_b.found same.0 in
    (ap (λ n. start_with n a.tty) place ∙ ap (λ n. start_with b.program n) same.1, same.2)

abbrev pub start_key : ℕ
start_key = opening (codes "start")

pub starts_unique : (programs : List Program) → AreNamed programs → AreNamedApart programs → AreUnique (IsStart programs) start_key Anything
starts_unique programs named apart = record {
  opens = λ text start r is. ap (λ t. opening (t ++ r)) is.spelled;
  follows = tt;
  one = λ text_a text_b a b r t is_a is_b may_r may_t e. start_one programs named apart text_a text_b a b r t is_a is_b e;
}

-- a program that stands in a text of programs is named
pub all_named : (text : List ℕ) (programs : List Program) → AreTexts IsProgram text programs → AreNamed programs
unfolding AreTexts
all_named text [] are i p found = cc
all_named text (program ∷ programs) are zero p found = subst (λ (q : Program). IsName q.name) (same_Some program p found) are.3.named
all_named text (program ∷ programs) are (suc i) p found = all_named are.1 programs are.4 i p found
