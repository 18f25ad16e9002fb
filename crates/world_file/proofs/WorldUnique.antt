-- A text has at most one world.
use Rattle.std.proofs.Common.{◌≡◌, ℕ, List, ◌++◌, codes, arith, ap, ◌∙◌, sym, subst}
use Rattle.std.specs.List.{flat_map}
use Rattle.std.proofs.lemmas.List.Elements.{recursion_from_All}
use Rattle.ow_base.specs.Lines.{line}
use Rattle.ow_base.specs.World.{AreTexts, IsFile, IsProgram, IsStart, type_line, IsTyped, typed_on, IsPanic, IsWorld}
use Rattle.ow_base.specs.declared.machine.Shape.{Shape}
use Rattle.ow_base.specs.declared.worlds.World.{World}
use Rattle.ow_base.specs.declared.worlds.Program.{Program}
use Rattle.ow_base.specs.declared.worlds.FileText.{FileText}
use Rattle.ow_base.specs.declared.worlds.KeyByte.{KeyByte}
use Rattle.ow_base.specs.declared.worlds.PanicLine.{PanicLine}
use Rattle.ow_base.specs.declared.worlds.Start.{Start as Started}
use Rattle.world_file.proofs.LinesUnique.{AreSame}
use Rattle.world_file.proofs.TextsUnique.{opening, Anything, opening_by, opening_some, texts_unique, IsLineOf, lines_are}
use Rattle.world_file.proofs.FilesUnique.{shape_unique, IsNoPut, file_key, files_unique}
use Rattle.world_file.proofs.ProgramsUnique.{program_key, IsNoWordLine, programs_unique, start_key, starts_unique, all_named}
use Rattle.world_file.proofs.DamagesUnique.{type_key, types_unique}
use Rattle.world_file.proofs.PanicsUnique.{panic_key, IsNoPartOfPanic, panics_unique}

-- what stands behind each part of the text of a world
module _ (text : List ℕ) (world : World) (is : IsWorld text world) where
  abbrev pub behind_panics : List ℕ
  behind_panics = line (codes "end")

  abbrev pub behind_types : List ℕ
  behind_types = is.panics_text ++ behind_panics

  abbrev pub behind_starts : List ℕ
  behind_starts = flat_map type_line is.typed ++ behind_types

  abbrev pub behind_programs : List ℕ
  behind_programs = is.starts_text ++ behind_starts

  abbrev pub behind_files : List ℕ
  behind_files = is.programs_text ++ behind_programs

  abbrev pub behind_head : List ℕ
  behind_head = is.files_text ++ behind_files

  pub typed_are : AreTexts (IsLineOf type_line IsTyped) (flat_map type_line is.typed) is.typed
  typed_are = lines_are type_line IsTyped is.typed (recursion_from_All IsTyped is.typed is.each_typed)

  -- what is behind the types opens with `panic` or `end`, and what is behind the starts with these or with `type`
  pub at_panics : (Has : ℕ → Type 0) → Has panic_key → Has (opening (codes "end")) → Has (opening behind_types)
  at_panics Has has_panic has_end =
      let few = is.shape.most_frames in
      opening_by (IsPanic world.load.shape.user_frames) panic_key Has (panics_unique world.load.shape.user_frames few).opens is.panics_text world.panics behind_panics is.panics has_panic has_end

  pub at_types : (Has : ℕ → Type 0) → Has type_key → Has panic_key → Has (opening (codes "end")) → Has (opening behind_starts)
  at_types Has has_type has_panic has_end =
      opening_by (IsLineOf type_line IsTyped) type_key Has types_unique.opens (flat_map type_line is.typed) is.typed behind_types typed_are has_type (at_panics Has has_panic has_end)

  pub at_starts : (Has : ℕ → Type 0) → Has start_key → Has (opening behind_programs)
  at_starts Has has_start =
      let named = all_named is.programs_text world.load.programs is.programs in
      let unique = starts_unique world.load.programs named is.program_names in
      subst Has (sym (opening_some (IsStart world.load.programs) start_key unique.opens is.starts_text world.load.starts behind_starts is.starts is.some_start)) has_start

  pub at_programs : (Has : ℕ → Type 0) → Has program_key → Has (opening behind_files)
  at_programs Has has_program =
      subst Has (sym (opening_some IsProgram program_key programs_unique.opens is.programs_text world.load.programs behind_programs is.programs is.some_program)) has_program

-- another opening than that of the key word
abbrev IsOtherThan : ℕ → ℕ → Type 0
IsOtherThan key k = k ≡ key → ⊥

-- the parts, one behind the other
module _ (text : List ℕ) (a b : World) (is_a : IsWorld text a) (is_b : IsWorld text b) where
  head_same : AreSame a.load.shape b.load.shape (behind_head text a is_a) (behind_head text b is_b)
  head_same = shape_unique a.load.shape b.load.shape (behind_head text a is_a) (behind_head text b is_b) is_a.shape is_b.shape (sym is_a.spelled ∙ is_b.spelled)

  files_same : AreSame a.load.files b.load.files (behind_files text a is_a) (behind_files text b is_b)
  files_same =
      texts_unique IsFile file_key IsNoPut files_unique is_a.files_text is_b.files_text a.load.files b.load.files (behind_files text a is_a) (behind_files text b is_b) is_a.files is_b.files
      (at_programs text a is_a (IsOtherThan file_key) (λ e. omega (arith, e))) (at_programs text b is_b (IsOtherThan file_key) (λ e. omega (arith, e)))
      (at_programs text a is_a IsNoPut (λ e. omega (arith, e))) (at_programs text b is_b IsNoPut (λ e. omega (arith, e))) head_same.1

  programs_same : AreSame a.load.programs b.load.programs (behind_programs text a is_a) (behind_programs text b is_b)
  programs_same =
      texts_unique IsProgram program_key IsNoWordLine programs_unique is_a.programs_text is_b.programs_text a.load.programs b.load.programs (behind_programs text a is_a) (behind_programs text b is_b) is_a.programs is_b.programs
      (at_starts text a is_a (IsOtherThan program_key) (λ e. omega (arith, e))) (at_starts text b is_b (IsOtherThan program_key) (λ e. omega (arith, e)))
      (at_starts text a is_a IsNoWordLine (λ e. omega (arith, e), λ e. omega (arith, e))) (at_starts text b is_b IsNoWordLine (λ e. omega (arith, e), λ e. omega (arith, e))) files_same.1

  starts_same : AreSame a.load.starts b.load.starts (behind_starts text a is_a) (behind_starts text b is_b)
  starts_same =
      let named = all_named is_a.programs_text a.load.programs is_a.programs in
      let unique = starts_unique a.load.programs named is_a.program_names in
      let starts_b = subst (λ ps. AreTexts (IsStart ps) is_b.starts_text b.load.starts) (sym programs_same.0) is_b.starts in
      texts_unique (IsStart a.load.programs) start_key Anything unique is_a.starts_text is_b.starts_text a.load.starts b.load.starts (behind_starts text a is_a) (behind_starts text b is_b) is_a.starts starts_b
      (at_types text a is_a (IsOtherThan start_key) (λ e. omega (arith, e)) (λ e. omega (arith, e)) (λ e. omega (arith, e)))
      (at_types text b is_b (IsOtherThan start_key) (λ e. omega (arith, e)) (λ e. omega (arith, e)) (λ e. omega (arith, e))) tt tt programs_same.1

  types_same : AreSame is_a.typed is_b.typed (behind_types text a is_a) (behind_types text b is_b)
  types_same =
      texts_unique (IsLineOf type_line IsTyped) type_key Anything types_unique (flat_map type_line is_a.typed) (flat_map type_line is_b.typed) is_a.typed is_b.typed (behind_types text a is_a) (behind_types text b is_b)
      (typed_are text a is_a) (typed_are text b is_b)
      (at_panics text a is_a (IsOtherThan type_key) (λ e. omega (arith, e)) (λ e. omega (arith, e)))
      (at_panics text b is_b (IsOtherThan type_key) (λ e. omega (arith, e)) (λ e. omega (arith, e))) tt tt starts_same.1

  panics_same : a.panics ≡ b.panics
  panics_same =
      let frames = a.load.shape.user_frames in
      let panics_b = subst (λ (s : Shape). AreTexts (IsPanic s.user_frames) is_b.panics_text b.panics) (sym head_same.0) is_b.panics in
      let last = line (codes "end") in
      (texts_unique (IsPanic frames) panic_key IsNoPartOfPanic (panics_unique frames is_a.shape.most_frames) is_a.panics_text is_b.panics_text a.panics b.panics last last is_a.panics panics_b
      (λ e. omega (arith, e)) (λ e. omega (arith, e)) (λ e. omega (arith, e), λ e. omega (arith, e)) (λ e. omega (arith, e), λ e. omega (arith, e)) types_same.1).0

abbrev with_parts : Shape → List FileText → List Program → List Started → List KeyByte → List KeyByte → List PanicLine → World
with_parts shape files programs starts typed0 typed1 panics = record {
  load = record { shape = shape; files = files; programs = programs; starts = starts };
  typed0 = typed0;
  typed1 = typed1;
  panics = panics;
}

-- each text has at most one value, in all the forms of World
pub one_world : (text : List ℕ) (a b : World) → IsWorld text a → IsWorld text b → a ≡ b
one_world text a b is_a is_b =
    let typed = (types_same text a b is_a is_b).0 in
    let typed0 : a.typed0 ≡ b.typed0 = is_a.typed0_is ∙ ap (typed_on 0) typed ∙ sym is_b.typed0_is in
    let typed1 : a.typed1 ≡ b.typed1 = is_a.typed1_is ∙ ap (typed_on 1) typed ∙ sym is_b.typed1_is in
    let files = a.load.files in
    let programs = a.load.programs in
    let starts = a.load.starts in
    let shape = b.load.shape in
    ap (λ s. with_parts s files programs starts a.typed0 a.typed1 a.panics) (head_same text a b is_a is_b).0
    ∙ ap (λ fs. with_parts shape fs programs starts a.typed0 a.typed1 a.panics) (files_same text a b is_a is_b).0
    ∙ ap (λ ps. with_parts shape b.load.files ps starts a.typed0 a.typed1 a.panics) (programs_same text a b is_a is_b).0
    ∙ ap (λ ss. with_parts shape b.load.files b.load.programs ss a.typed0 a.typed1 a.panics) (starts_same text a b is_a is_b).0
    ∙ ap (λ ts. with_parts shape b.load.files b.load.programs b.load.starts ts a.typed1 a.panics) typed0
    ∙ ap (λ ts. with_parts shape b.load.files b.load.programs b.load.starts b.typed0 ts a.panics) typed1
    ∙ ap (λ ps. with_parts shape b.load.files b.load.programs b.load.starts b.typed0 b.typed1 ps) (panics_same text a b is_a is_b)
