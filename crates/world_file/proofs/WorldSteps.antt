-- Reading, a line at a time, where the text behind the line is not cut yet.
use Rattle.std.proofs.Common.{◌≡◌, ℕ, ◌+◌, ◌<◌, Bool, true, false, nat_lt, List, [], ◌∷◌, length, Option, Some, None, Ok, Err, codes, bytes_eq, arith, ap, ◌∙◌, refl, if◌then◌else◌, ◌==◌}
use Rattle.std.proofs.lemmas.Grind.{common_steps}
use Rattle.world_file.specs.declared.key.Key.{Key}
use Rattle.world_file.specs.declared.key.Key.TheVariants.{World as WorldKey, Frames, Sectors, Quantum, Budget, Program, Code, Data, Start, Panic, End as EndKey, Unbuilt, Unknown}
use Rattle.world_file.specs.declared.why.Why.{Why}
use Rattle.world_file.specs.declared.why.Why.TheVariants.{End}
use Rattle.world_file.specs.WorldLines.{Line, with_byte, pieces, key, is_empty}
use Rattle.world_file.specs.WorldFacts.{Facts, programs_of}
use Rattle.world_file.specs.WorldReasons.{first_reason, is_barred, is_taken, place_of, program_place, counted_place, has_too_many_words}
use Rattle.world_file.specs.declared.reasons.Place.TheVariants.{Free, Taken}
use Rattle.world_file.specs.WorldReading.{with_line, world_of, is_nothing, ended, read_line, read_lines}
use Rattle.world_file.proofs.WorldPieces.{HasPiece, has_piece}
use Rattle.world_file.proofs.WorldPassed.{passed}
use Rattle.world_file.proofs.WorldKeys.{neither}

-- a line, with the text behind it
line_behind : (f : Facts) (number : ℕ) (line : Line) (ahead : List Line) → HasPiece ahead
    → read_lines f number (line ∷ ahead) ≡ read_line (first_reason f line) f number line ahead (read_lines (with_line f line) (number + 1) ahead)
unfolding read_lines
line_behind f number line ahead some = rw some.2 refl

pub read_piece : (f : Facts) (number : ℕ) (text : List ℕ) (line : Line) (rest : List ℕ) → pieces 10 text ≡ line ∷ pieces 10 rest
    → read_lines f number (pieces 10 text) ≡ read_line (first_reason f line) f number line (pieces 10 rest) (read_lines (with_line f line) (number + 1) (pieces 10 rest))
read_piece f number text line rest cut =
    ap (read_lines f number) cut ∙ line_behind f number line (pieces 10 rest) (has_piece 10 rest)

-- what is behind the last line feed
pub read_rest : (f : Facts) (number : ℕ) (text : List ℕ) (rest : Line) → pieces 10 text ≡ rest ∷ []
    → read_lines f number (pieces 10 text) ≡ Err (record { line = number + 1; why = End })
unfolding read_lines
read_rest f number text rest whole = ap (read_lines f number) whole

-- nothing is behind the last line feed
nothing_by : (hit : Bool) (b : ℕ) (ahead : List Line) → HasPiece ahead → is_nothing (if hit then [] ∷ ahead else with_byte b ahead) ≡ false
nothing_by true b ahead some = rw some.2 refl
nothing_by false b ahead some = by_others some.0 some.1 some.2
  where
    by_others : (piece : Line) (others : List Line) → ahead ≡ piece ∷ others → is_nothing (with_byte b ahead) ≡ false
    by_others piece [] e = rw e refl
    by_others piece (next ∷ others) e = rw e refl

pub nothing_is : (rest : List ℕ) → is_nothing (pieces 10 rest) ≡ is_empty rest
unfolding pieces
nothing_is [] = refl
nothing_is (b ∷ bs) = nothing_by (b == 10) b (pieces 10 bs) (has_piece 10 bs)

-- the three ways in which a line is read
pub read_refused : (f : Facts) (number : ℕ) (text : List ℕ) (line : Line) (rest : List ℕ) (why : Why) → pieces 10 text ≡ line ∷ pieces 10 rest
    → first_reason f line ≡ Some why → read_lines f number (pieces 10 text) ≡ Err (record { line = number + 1; why = why })
read_refused f number text line rest why cut reason =
    read_piece f number text line rest cut
    ∙ ap (λ r. read_line r f number line (pieces 10 rest) (read_lines (with_line f line) (number + 1) (pieces 10 rest))) reason

pub read_end : (f : Facts) (number : ℕ) (text : List ℕ) (line : Line) (rest : List ℕ) → pieces 10 text ≡ line ∷ pieces 10 rest
    → first_reason f line ≡ None → bytes_eq line (codes "end") ≡ true
    → read_lines f number (pieces 10 text) ≡ (if is_empty rest then Ok (world_of f) else Err (record { line = number + 2; why = End }))
read_end f number text line rest cut no_reason last =
    let more = read_lines (with_line f line) (number + 1) (pieces 10 rest) in
    read_piece f number text line rest cut
    ∙ ap (λ r. read_line r f number line (pieces 10 rest) more) no_reason
    ∙ ap (λ test. if test then ended f number (pieces 10 rest) else more) last
    ∙ ap (λ test. if test then Ok (world_of f) else Err (record { line = number + 2; why = End })) (nothing_is rest)

pub read_more : (f : Facts) (number : ℕ) (text : List ℕ) (line : Line) (rest : List ℕ) → pieces 10 text ≡ line ∷ pieces 10 rest
    → first_reason f line ≡ None → bytes_eq line (codes "end") ≡ false
    → read_lines f number (pieces 10 text) ≡ read_lines (with_line f line) (number + 1) (pieces 10 rest)
read_more f number text line rest cut no_reason other =
    let more = read_lines (with_line f line) (number + 1) (pieces 10 rest) in
    read_piece f number text line rest cut
    ∙ ap (λ r. read_line r f number line (pieces 10 rest) more) no_reason
    ∙ ap (λ test. if test then ended f number (pieces 10 rest) else more) other

-- a line without a reason may stand, and its kind may come again
may_stand : (f : Facts) (line : Line) → first_reason f line ≡ None → (is_barred (place_of (key line) f) ≡ false) × (is_taken (place_of (key line) f) ≡ false)
may_stand f line h =
    let is = passed f line h in
    (is.word, (neither (is_taken (place_of (key line) f)) (has_too_many_words (key line) f line) is.count).0)

counted : (most count : ℕ) → is_taken (counted_place most count) ≡ false → count < most
counted most count h = by_test (nat_lt count most) refl h
  where
    by_test : (test : Bool) → nat_lt count most ≡ test → is_taken (if test then Free else Taken) ≡ false → count < most
    by_test true e h = grind (arith, common_steps)
    by_test false e h = cc

program_counted : (count : ℕ) (last : Option Key) → is_barred (program_place count last) ≡ false → is_taken (program_place count last) ≡ false → count < 16
program_counted count None barred taken = cc
program_counted count (Some WorldKey) barred taken = cc
program_counted count (Some Frames) barred taken = cc
program_counted count (Some Sectors) barred taken = cc
program_counted count (Some Quantum) barred taken = cc
program_counted count (Some Budget) barred taken = counted 16 count taken
program_counted count (Some Program) barred taken = cc
program_counted count (Some Code) barred taken = counted 16 count taken
program_counted count (Some Data) barred taken = counted 16 count taken
program_counted count (Some Start) barred taken = cc
program_counted count (Some Panic) barred taken = cc
program_counted count (Some EndKey) barred taken = cc
program_counted count (Some Unbuilt) barred taken = cc
program_counted count (Some Unknown) barred taken = cc

-- there is room for the block of a program line
pub room_for_program : (f : Facts) (line : Line) → first_reason f line ≡ None → key line ≡ Program → length (programs_of f) < 16
room_for_program f line no_reason program =
    let place = may_stand f line no_reason in
    program_counted (length (programs_of f)) f.last (rw program at place.0) (rw program at place.1)
