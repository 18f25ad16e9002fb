-- What the lines before a place say. They stand nearest first.
use Rattle.std.specs.Prelude.{ℕ, Bool, List, [], ◌∷◌, ◌++◌, option_to_list, bytes_eq, Option, Some, None, option_map}
use Rattle.std.specs.List.{position_or_len}
use Rattle.ow_base.specs.declared.machine.Shape.{Shape}
use Rattle.ow_base.specs.declared.worlds.PanicLine.{PanicLine}
use Rattle.ow_base.specs.declared.worlds.Program.{Program}
use Rattle.ow_base.specs.declared.worlds.Start.{Start as Started}
use Rattle.world_file.specs.declared.key.Key.{Key}
use Rattle.world_file.specs.declared.key.Key.TheVariants.{Frames, Sectors, Quantum, Budget, Program as ProgramKey, Code, Data, Start, Panic}
use Rattle.world_file.specs.WorldLines.{Line, key, token_at, number_at, words_of}

-- what the line before is
unfoldable pub last_key : List Line → Option Key
last_key [] = None
last_key (line ∷ behind) = Some (key line)

-- the numbers of the first lines; a number that no line gave is 0
abbrev pub no_shape : Shape
no_shape = record { user_frames = 0; sectors = 0; quantum = 0; budget = 0 }

abbrev pub with_limit : Key → (number : ℕ) → Shape → Shape
with_limit Frames n shape = record shape { user_frames = n }
with_limit Sectors n shape = record shape { sectors = n }
with_limit Quantum n shape = record shape { quantum = n }
with_limit Budget n shape = record shape { budget = n }
with_limit other n shape = shape

unfoldable pub shape_of : List Line → Shape
shape_of [] = no_shape
shape_of (line ∷ behind) = with_limit (key line) (number_at 1 line) (shape_of behind)

-- the block that the next code or data line goes on with
abbrev pub with_code : List ℕ → Program → Program
with_code words program = record program { code = program.code ++ words }

abbrev pub with_values : List ℕ → Program → Program
with_values words program = record program { values = program.values ++ words }

abbrev pub opened_by : Key → Line → Option Program → Option Program
opened_by ProgramKey line before = Some (record { name = token_at 1 line; code = []; values = [] })
opened_by Code line before = option_map (with_code (words_of line)) before
opened_by Data line before = option_map (with_values (words_of line)) before
opened_by Start line before = None
opened_by other line before = before

unfoldable pub opened : List Line → Option Program
opened [] = None
opened (line ∷ behind) = opened_by (key line) line (opened behind)

-- the blocks that are finished: a program or start line stands behind them
abbrev pub finished_by : Key → List Program → Option Program → List Program
finished_by ProgramKey before current = before ++ option_to_list current
finished_by Start before current = before ++ option_to_list current
finished_by other before current = before

unfoldable pub finished : List Line → List Program
finished [] = []
finished (line ∷ behind) = finished_by (key line) (finished behind) (opened behind)

-- the starts
abbrev pub has_name : (name : List ℕ) → Program → Bool
has_name name program = bytes_eq program.name name

abbrev pub start_of : List Program → Line → Started
start_of programs line = record { program = position_or_len (has_name (token_at 1 line)) programs; tty = number_at 2 line }

abbrev pub starts_by : Key → Line → List Program → List Started → List Started
starts_by Start line programs before = before ++ start_of programs line ∷ []
starts_by other line programs before = before

unfoldable pub starts : List Line → List Started
starts [] = []
starts (line ∷ behind) = starts_by (key line) line (finished behind ++ option_to_list (opened behind)) (starts behind)

-- the panics, in which nothing is damaged and no store is refused again
abbrev pub bare_panic : (trap store : ℕ) → PanicLine
bare_panic trap store = record { trap = trap; store = store; damages = []; agains = [] }

abbrev pub panics_by : Key → Line → List PanicLine → List PanicLine
panics_by Panic line before = before ++ bare_panic (number_at 1 line) (number_at 2 line) ∷ []
panics_by other line before = before

unfoldable pub panics : List Line → List PanicLine
panics [] = []
panics (line ∷ behind) = panics_by (key line) line (panics behind)

-- all that the lines before say
pub record Facts : Type 0 where
  pub last : Option Key
  pub shape : Shape
  pub finished : List Program
  pub opened : Option Program
  pub starts : List Started
  pub panics : List PanicLine

abbrev pub programs_of : Facts → List Program
programs_of f = f.finished ++ option_to_list f.opened

abbrev pub facts : List Line → Facts
facts behind = record {
  last = last_key behind;
  shape = shape_of behind;
  finished = finished behind;
  opened = opened behind;
  starts = starts behind;
  panics = panics behind;
}
