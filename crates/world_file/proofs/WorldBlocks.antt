-- Program blocks, whole, are read one behind the other.
use Rattle.std.proofs.Common.{◌≡◌, ℕ, suc, ◌<◌, ◌≤◌, Bool, true, false, List, [], ◌∷◌, ◌++◌, length, Option, Some, codes, bytes_eq, option_to_list, arith, ap, ◌∙◌, sym, refl, subst, append_assoc, append-nil, length-append}
use Rattle.std.specs.List.{AllPairs, slice_index_or, flat_map, concat, list_any}
use Rattle.std.proofs.lemmas.List.Elements.{recursion_from_All}
use Rattle.std.proofs.lemmas.Slice.Eq.{bytes_eq-Decides}
use Rattle.ow_base.specs.Lines.{line, spaced}
use Rattle.ow_base.specs.World.{AreTexts, IsName, IsLineful, IsProgram, word_line}
use Rattle.ow_base.specs.declared.machine.Shape.{Shape}
use Rattle.ow_base.specs.declared.worlds.World.{World}
use Rattle.ow_base.specs.declared.worlds.Program.{Program}
use Rattle.world_file.specs.declared.key.Key.{Key}
use Rattle.world_file.specs.declared.key.Key.TheVariants.{Program as ProgramKey, Code, Data}
use Rattle.world_file.specs.WorldFacts.{has_name}
use Rattle.world_file.proofs.WorldPieces.{free, free-append}
use Rattle.world_file.proofs.WorldFields.{free_name}
use Rattle.world_file.proofs.WorldSpelled.{two_words}
use Rattle.world_file.proofs.WorldPassed.{Reads, reads_line}
use Rattle.world_file.proofs.WorldBlocksRead.{at_program, Opens, EndsBlock, block, last_of, program_passed, program_said, code_read, data_read}

code_ends : EndsBlock Code
code_ends = record { opens = λ c. refl; starts = λ c. refl }

data_ends : EndsBlock Data
data_ends = record { opens = λ c. refl; starts = λ c. refl }

ends_after : (values : List (List ℕ)) → EndsBlock (last_of Data values Code)
ends_after [] = code_ends
ends_after (ws ∷ lines) = data_ends

-- lines of code of which there is some word
some_lines : (lines : List (List ℕ)) → 1 ≤ length (concat lines) → last_of Code lines ProgramKey ≡ Code
some_lines [] h = absurd (omega arith)
some_lines (ws ∷ lines) h = refl

line_not_end : (name : List ℕ) → bytes_eq (spaced (codes "program") name) (codes "end") ≡ false
line_not_end name = refl

free_program : (name : List ℕ) → IsName name → free 10 (spaced (codes "program") name) ≡ true
free_program name named = free-append 10 (codes "program") (32 ∷ name) refl (free_name 10 name (omega arith) named)

-- one block
pub block_read : (k : Key) (shape : Shape) (done : List Program) (o : Option Program) (text : List ℕ) (program : Program) (rest : List ℕ) (world : World) → Opens k → IsProgram text program
    → list_any (has_name program.name) (done ++ option_to_list o) ≡ false → length (done ++ option_to_list o) < 16
    → ((last : Key) → EndsBlock last → Reads (at_program last shape (done ++ option_to_list o) (Some program)) rest world)
    → Reads (at_program k shape done o) (text ++ rest) world
block_read k shape done o text program rest world opens is fresh room more =
    let name = program.name in
    let before = done ++ option_to_list o in
    let l = spaced (codes "program") name in
    let codes_text = flat_map (word_line (codes "code")) is.code.lines in
    let data_text = flat_map (word_line (codes "data")) is.values.lines in
    let w = two_words (codes "program") name refl (free_name 32 name (omega arith) is.named) in
    let code_is : concat is.code.lines ≡ program.code = sym is.code.joined in
    let values_is : concat is.values.lines ≡ program.values = sym is.values.joined in
    let code_most : length (concat is.code.lines) ≤ 65536 = omega (arith, ap length code_is, is.code.longest) in
    let values_most : length (concat is.values.lines) ≤ 65536 = omega (arith, ap length values_is, is.values.longest) in
    let some : 1 ≤ length (concat is.code.lines) = omega (arith, ap length code_is, is.some_code) in
    let last = last_of Data is.values.lines Code in
    let end : Reads (at_program last shape before (Some (block name (concat is.code.lines) (concat is.values.lines)))) rest world =
    rw (code_is, values_is) (more last (ends_after is.values.lines)) in
    let values = data_read Code shape before name (concat is.code.lines) [] is.values.lines rest world refl (recursion_from_All IsLineful is.values.lines is.values.sizes) (omega arith) end in
    let from_code : Reads (at_program (last_of Code is.code.lines ProgramKey) shape before (Some (block name (concat is.code.lines) []))) (data_text ++ rest) world =
    rw (some_lines is.code.lines some) values in
    let code = code_read ProgramKey shape before name [] [] is.code.lines (data_text ++ rest) world refl (recursion_from_All IsLineful is.code.lines is.code.sizes) (omega arith) from_code in
    let first = reads_line (at_program k shape done o) l (codes_text ++ (data_text ++ rest)) world (free_program name is.named) (program_passed k shape done o l name opens w is.named fresh room) (line_not_end name)
    (subst (λ f. Reads f (codes_text ++ (data_text ++ rest)) world) (sym (program_said k shape done o l name w)) code) in
    let whole : line l ++ (codes_text ++ (data_text ++ rest)) ≡ text ++ rest =
    sym (ap (λ t. t ++ rest) (is.spelled ∙ ap (λ c. line l ++ (c ++ is.values_text)) is.code.spelled ∙ ap (λ v. line l ++ (codes_text ++ v)) is.values.spelled)
    ∙ append_assoc (line l) (codes_text ++ data_text) rest ∙ ap (λ t. line l ++ t) (append_assoc codes_text data_text rest)) in
    subst (λ t. Reads (at_program k shape done o) t world) whole first

-- names that are apart
abbrev pub NamesApart : List Program → Type 0
NamesApart programs = AllPairs (λ (a b : Program). a.name ≡ b.name → ⊥) programs

seam : (before : List Program) (p : Program) (ps : List Program) (d : Program) → slice_index_or (before ++ p ∷ ps) (length before) d ≡ p
seam [] p ps d = refl
seam (b ∷ before) p ps d = seam before p ps d

pub not_same : (hit : Bool) {A : Type 0} → (hit ≡ true → A) → (A → ⊥) → hit ≡ false
not_same true same apart = absurd (apart (same refl))
not_same false same apart = refl

pub fresh_name : (before : List Program) (p : Program) (ps : List Program) → NamesApart (before ++ p ∷ ps) → list_any (has_name p.name) before ≡ false
fresh_name [] p ps apart = refl
fresh_name (b ∷ before) p ps apart =
    let within : suc (length before) < length (b ∷ (before ++ p ∷ ps)) = omega (arith, length-append before (p ∷ ps)) in
    let pair = apart 0 (suc (length before)) b (omega arith) within in
    let here = not_same (bytes_eq b.name p.name) (bytes_eq-Decides b.name p.name).0 (λ e. pair (e ∙ ap (λ q. q.name) (sym (seam before p ps b)))) in
    rw here (fresh_name before p ps (λ i j d low high. apart (suc i) (suc j) d (omega arith) (omega arith)))

-- more blocks, behind one that may end here
pub blocks_read : (k : Key) (shape : Shape) (done : List Program) (o : Option Program) (text : List ℕ) (programs : List Program) (rest : List ℕ) (world : World) → EndsBlock k → AreTexts IsProgram text programs
    → NamesApart ((done ++ option_to_list o) ++ programs) → length ((done ++ option_to_list o) ++ programs) ≤ 16
    → ((last : Key) (before : List Program) (current : Option Program) → EndsBlock last → before ++ option_to_list current ≡ (done ++ option_to_list o) ++ programs
    → Reads (at_program last shape before current) rest world)
    → Reads (at_program k shape done o) (text ++ rest) world
unfolding AreTexts
blocks_read k shape done o text [] rest world ends are apart few more =
    subst (λ t. Reads (at_program k shape done o) (t ++ rest) world) (sym are) (more k done o ends (sym (append-nil (done ++ option_to_list o))))
blocks_read k shape done o text (program ∷ programs) rest world ends are apart few more =
    let before = done ++ option_to_list o in
    let front = are.0 in
    let others = are.1 in
    let joined : (before ++ program ∷ []) ++ programs ≡ before ++ (program ∷ programs) = append_assoc before (program ∷ []) programs in
    let room : length before < 16 = omega (arith, few, length-append before (program ∷ programs)) in
    let whole : front ++ (others ++ rest) ≡ text ++ rest = sym (ap (λ t. t ++ rest) are.2 ∙ append_assoc front others rest) in
    subst (λ t. Reads (at_program k shape done o) t world) whole
    (block_read k shape done o front program (others ++ rest) world ends.opens are.3 (fresh_name before program programs apart) room
    (λ last last_ends. blocks_read last shape before (Some program) others programs rest world last_ends are.4 (subst NamesApart (sym joined) apart)
    (omega (arith, few, ap length joined)) (λ k2 b2 c2 e2 is2. more k2 b2 c2 e2 (is2 ∙ joined))))
