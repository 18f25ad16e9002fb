-- How a world is read, line by line.
use Rattle.std.specs.Prelude.{◌≡◌, ℕ, ◌+◌, nat_lt, Bool, true, false, if◌then◌else◌, List, [], ◌∷◌, length, codes, bytes_eq, Option, Some, None, Result, Ok, Err}
use Rattle.ow_base.specs.declared.worlds.World.{World}
use Rattle.world_file.specs.declared.reader.WorldFault.{WorldFault}
use Rattle.world_file.specs.declared.reader.WorldFault.TheVariants.{Bad, Memory}
use Rattle.world_file.specs.declared.why.Why.{Why}
use Rattle.world_file.specs.declared.why.Why.TheVariants.{End, TooLarge}
use Rattle.world_file.specs.WorldLines.{Line, pieces, key, number_at}
use Rattle.world_file.specs.WorldFacts.{Facts, programs_of, no_shape, with_limit, opened_by, finished_by, starts_by, panics_by}
use Rattle.world_file.specs.WorldReasons.{first_reason}

-- the line at which a text is refused, and why
pub record Refusal : Type 0 where
  pub line : ℕ
  pub why : Why

-- nothing said yet
abbrev pub nothing_said : Facts
nothing_said = record { last = None; shape = no_shape; finished = []; opened = None; starts = []; panics = [] }

-- what is said with one more line
unfoldable pub with_line : Facts → Line → Facts
with_line f line = record {
  last = Some (key line);
  shape = with_limit (key line) (number_at 1 line) f.shape;
  finished = finished_by (key line) f.finished f.opened;
  opened = opened_by (key line) line f.opened;
  starts = starts_by (key line) line (programs_of f) f.starts;
  panics = panics_by (key line) line f.panics;
}

-- the world that is said
abbrev pub world_of : Facts → World
world_of f = record {
  load = record { shape = f.shape; files = []; programs = programs_of f; starts = f.starts };
  typed0 = [];
  typed1 = [];
  panics = f.panics;
}

-- the line `end`, with what is behind it
abbrev pub is_nothing : List Line → Bool
is_nothing ([] ∷ []) = true
is_nothing other = false

abbrev pub ended : Facts → (number : ℕ) → (ahead : List Line) → Result World Refusal
ended f number ahead = if is_nothing ahead then Ok (world_of f) else Err (record { line = number + 2; why = End })

-- behind so many lines, which said so much, a line for which there is this reason, or none
abbrev pub read_line : Option Why → Facts → (number : ℕ) → Line → (ahead : List Line) → (more : Result World Refusal) → Result World Refusal
read_line (Some why) f number line ahead more = Err (record { line = number + 1; why = why })
read_line None f number line ahead more = if bytes_eq line (codes "end") then ended f number ahead else more

unfoldable pub read_lines : Facts → (number : ℕ) → List Line → Result World Refusal
read_lines f number [] = Err (record { line = number + 1; why = End })
read_lines f number (rest ∷ []) = Err (record { line = number + 1; why = End })
read_lines f number (line ∷ next ∷ ahead) =
    read_line (first_reason f line) f number line (next ∷ ahead) (read_lines (with_line f line) (number + 1) (next ∷ ahead))

unfoldable pub read_text : List ℕ → Result World Refusal
read_text text = if nat_lt 1048576 (length text) then Err (record { line = 0; why = TooLarge }) else read_lines nothing_said 0 (pieces 10 text)

-- what a function of the reader returned is what reading gives, unless memory ran out
abbrev pub Gives : Result World WorldFault → Result World Refusal → Type 0
Gives (Ok world) read = read ≡ Ok world
Gives (Err (Bad line why)) read = read ≡ Err (record { line = line; why = why })
Gives (Err (Memory e)) read = Unit {0}
