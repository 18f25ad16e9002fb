-- Lines against which there is no reason, and what reading does at them.
use Rattle.std.proofs.Common.{◌≡◌, ℕ, ◌+◌, Bool, true, false, List, ◌∷◌, ◌++◌, Option, Some, None, Ok, codes, bytes_eq, ap, ◌∙◌, refl, if◌then◌else◌}
use Rattle.ow_base.specs.Lines.{line}
use Rattle.ow_base.specs.declared.worlds.World.{World}
use Rattle.world_file.specs.declared.why.Why.TheVariants.{FirstLine, NotBuilt, Word, TooMany, Fields, Number, Name, Hex, Twice, NoSuchProgram, Order, Frames}
use Rattle.world_file.specs.WorldLines.{Line, pieces, key}
use Rattle.world_file.specs.WorldFacts.{Facts}
use Rattle.world_file.specs.WorldReasons.{first_reason, is_no_first_line, is_unbuilt, is_barred, place_of, comes_too_often, lacks_fields, has_no_number, has_no_name, has_no_word, comes_twice, names_no_program, does_not_rise, exceeds_frames}
use Rattle.world_file.specs.WorldReading.{with_line, world_of, read_line, read_lines}
use Rattle.world_file.proofs.WorldPieces.{free, has_piece, pieces_line}

-- no reason holds for a line
pub record IsPassed (f : Facts) (line : Line) : Type 0 where
  pub first : is_no_first_line f line ≡ false
  pub built : is_unbuilt (key line) ≡ false
  pub word : is_barred (place_of (key line) f) ≡ false
  pub count : comes_too_often f line ≡ false
  pub fields : lacks_fields line ≡ false
  pub number : has_no_number (key line) line ≡ false
  pub name : has_no_name (key line) line ≡ false
  pub hex : has_no_word (key line) line ≡ false
  pub once : comes_twice (key line) f line ≡ false
  pub program : names_no_program (key line) f line ≡ false
  pub order : does_not_rise (key line) f line ≡ false
  pub frames : exceeds_frames (key line) f line ≡ false

pub no_reason : (f : Facts) (line : Line) → IsPassed f line → first_reason f line ≡ None
unfolding first_reason
no_reason f line is = rw (is.first, is.built, is.word, is.count, is.fields, is.number, is.name, is.hex, is.once, is.program, is.order, is.frames) refl

-- a test before the rest
went_on : {A : Type 0} (b : Bool) (x : A) (more : Option A) → (if b then Some x else more) ≡ None → (b ≡ false) × (more ≡ None)
went_on true x more h = cc
went_on false x more h = (refl, h)

pub passed : (f : Facts) (line : Line) → first_reason f line ≡ None → IsPassed f line
unfolding first_reason
passed f line h =
    let a = went_on (is_no_first_line f line) FirstLine _ h in
    let b = went_on (is_unbuilt (key line)) NotBuilt _ a.1 in
    let c = went_on (is_barred (place_of (key line) f)) Word _ b.1 in
    let d = went_on (comes_too_often f line) TooMany _ c.1 in
    let e = went_on (lacks_fields line) Fields _ d.1 in
    let g = went_on (has_no_number (key line) line) Number _ e.1 in
    let i = went_on (has_no_name (key line) line) Name _ g.1 in
    let j = went_on (has_no_word (key line) line) Hex _ i.1 in
    let k = went_on (comes_twice (key line) f line) Twice _ j.1 in
    let l = went_on (names_no_program (key line) f line) NoSuchProgram _ k.1 in
    let m = went_on (does_not_rise (key line) f line) Order _ l.1 in
    let o = went_on (exceeds_frames (key line) f line) Frames _ m.1 in
    record { first = a.0; built = b.0; word = c.0; count = d.0; fields = e.0; number = g.0; name = i.0; hex = j.0; once = k.0; program = l.0; order = m.0; frames = o.0 }

-- from here on, behind any number of lines, a text is read
abbrev pub Reads : Facts → (text : List ℕ) → World → Type 0
Reads f text world = (n : ℕ) → read_lines f n (pieces 10 text) ≡ Ok world

next_is : (f : Facts) (n : ℕ) (l : Line) (rest : List Line) (p : Line) (ps : List Line) → rest ≡ p ∷ ps
    → read_lines f n (l ∷ rest) ≡ read_line (first_reason f l) f n l rest (read_lines (with_line f l) (n + 1) rest)
unfolding read_lines
next_is f n l rest p ps e = rw e refl

-- a line that is passed
pub reads_line : (f : Facts) (l rest : List ℕ) (world : World) → free 10 l ≡ true → IsPassed f l → bytes_eq l (codes "end") ≡ false
    → Reads (with_line f l) rest world → Reads f (line l ++ rest) world
reads_line f l rest world clean is other more n =
    let piece = has_piece 10 rest in
    let none = no_reason f l is in
    ap (read_lines f n) (pieces_line l rest clean) ∙ next_is f n l (pieces 10 rest) piece.0 piece.1 piece.2
    ∙ rw (none, other) (more (n + 1))

-- the line `end`
pub reads_end : (f : Facts) → IsPassed f (codes "end") → Reads f (line (codes "end")) (world_of f)
unfolding read_lines pieces
reads_end f is n = let none = no_reason f (codes "end") is in rw none refl
