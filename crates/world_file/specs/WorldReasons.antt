-- Why a line is refused behind the lines before it. Each reason is a test of its own.
use Rattle.std.specs.Prelude.{ℕ, ◌+◌, ◌-◌, Bool, true, false, not, nat_lt, nat_le, ◌&&◌, ◌||◌, ◌==◌, if◌then◌else◌, List, [], ◌∷◌, length, find, slice_get, codes, bytes_eq, Option, Some, None}
use Rattle.std.specs.List.{list_all, list_any}
use Rattle.ow_base.specs.World.{start_pages, pages_of_found}
use Rattle.ow_base.specs.declared.worlds.PanicLine.{PanicLine}
use Rattle.ow_base.specs.declared.worlds.Program.{Program}
use Rattle.world_file.specs.declared.key.Key.{Key}
use Rattle.world_file.specs.declared.key.Key.TheVariants.{World, Frames, Sectors, Quantum, Budget, Program as ProgramKey, Code, Data, Start, Panic, End, Unbuilt}
use Rattle.world_file.specs.declared.reasons.Place.{Place}
use Rattle.world_file.specs.declared.reasons.Place.TheVariants.{Free, Taken, Barred}
use Rattle.world_file.specs.declared.why.Why.{Why}
use Rattle.world_file.specs.declared.why.Why.TheVariants.{FirstLine, NotBuilt, Word, TooMany, Fields, Number, Name, Hex, Escape, Twice, NoSuchProgram, Order, Frames as TooManyFrames, Sectors as TooManySectors, End as NoEnd, TooLarge}
use Rattle.world_file.specs.WorldLines.{Line, tokens, token_at, fields, key, number_at, is_number, is_name, is_word, is_empty, is_there}
use Rattle.world_file.specs.WorldFacts.{Facts, facts, programs_of, has_name}

-- the reasons in words
abbrev pub reason_text : Why → List ℕ
reason_text FirstLine = codes "first line"
reason_text NotBuilt = codes "not built"
reason_text Word = codes "word"
reason_text TooMany = codes "too many"
reason_text Fields = codes "fields"
reason_text Number = codes "number"
reason_text Name = codes "name"
reason_text Hex = codes "hex"
reason_text Escape = codes "escape"
reason_text Twice = codes "twice"
reason_text NoSuchProgram = codes "no such program"
reason_text Order = codes "order"
reason_text TooManyFrames = codes "frames"
reason_text TooManySectors = codes "sectors"
reason_text NoEnd = codes "end"
reason_text TooLarge = codes "too large"

-- whether a line of a kind may stand behind the line before: it may, it may not for the one reason that its
-- kind came just before as often as it may, or it may not at all
abbrev pub first_place : Option Key → Place
first_place None = Free
first_place (Some World) = Taken
first_place (Some other) = Barred

abbrev pub frames_place : Option Key → Place
frames_place (Some World) = Free
frames_place (Some Frames) = Taken
frames_place other = Barred

abbrev pub sectors_place : Option Key → Place
sectors_place (Some Frames) = Free
sectors_place (Some Sectors) = Taken
sectors_place other = Barred

abbrev pub quantum_place : Option Key → Place
quantum_place (Some Sectors) = Free
quantum_place (Some Quantum) = Taken
quantum_place other = Barred

abbrev pub budget_place : Option Key → Place
budget_place (Some Quantum) = Free
budget_place (Some Budget) = Taken
budget_place other = Barred

-- a line of a kind of which there may be so many
abbrev pub counted_place : (most count : ℕ) → Place
counted_place most count = if nat_lt count most then Free else Taken

abbrev pub program_place : (count : ℕ) → Option Key → Place
program_place count (Some Budget) = counted_place 16 count
program_place count (Some Code) = counted_place 16 count
program_place count (Some Data) = counted_place 16 count
program_place count other = Barred

abbrev pub code_place : Option Key → Place
code_place (Some ProgramKey) = Free
code_place (Some Code) = Free
code_place other = Barred

abbrev pub data_place : Option Key → Place
data_place (Some Code) = Free
data_place (Some Data) = Free
data_place other = Barred

abbrev pub start_place : (count : ℕ) → Option Key → Place
start_place count (Some Code) = counted_place 16 count
start_place count (Some Data) = counted_place 16 count
start_place count (Some Start) = counted_place 16 count
start_place count other = Barred

abbrev pub panic_place : (count : ℕ) → Option Key → Place
panic_place count (Some Start) = counted_place 32 count
panic_place count (Some Panic) = counted_place 32 count
panic_place count other = Barred

abbrev pub end_place : Option Key → Place
end_place (Some Start) = Free
end_place (Some Panic) = Free
end_place other = Barred

abbrev pub head_place : Key → Option Key → Place
head_place World last = first_place last
head_place Frames last = frames_place last
head_place Sectors last = sectors_place last
head_place Quantum last = quantum_place last
head_place Budget last = budget_place last
head_place other last = Barred

abbrev pub place_of : Key → Facts → Place
place_of ProgramKey f = program_place (length (programs_of f)) f.last
place_of Code f = code_place f.last
place_of Data f = data_place f.last
place_of Start f = start_place (length f.starts) f.last
place_of Panic f = panic_place (length f.panics) f.last
place_of End f = end_place f.last
place_of other f = head_place other f.last

abbrev pub is_barred : Place → Bool
is_barred Barred = true
is_barred other = false

abbrev pub is_taken : Place → Bool
is_taken Taken = true
is_taken other = false

-- line 1 is another than `world 1`
abbrev pub is_no_first_line : Facts → Line → Bool
is_no_first_line f line = not (is_there f.last) && not (bytes_eq line (codes "world 1"))

-- the line's form cannot be read yet
abbrev pub is_unbuilt : Key → Bool
is_unbuilt Unbuilt = true
is_unbuilt other = false

-- more than 16 words on one line, or more than 65,536 in a block
abbrev pub exceeds : (before here : ℕ) → Bool
exceeds before here = nat_lt 16 here || nat_lt 65536 (before + here)

abbrev pub code_count : Option Program → ℕ
code_count None = 0
code_count (Some program) = length program.code

abbrev pub data_count : Option Program → ℕ
data_count None = 0
data_count (Some program) = length program.values

abbrev pub has_too_many_words : Key → Facts → Line → Bool
has_too_many_words Code f line = exceeds (code_count f.opened) (length (fields line))
has_too_many_words Data f line = exceeds (data_count f.opened) (length (fields line))
has_too_many_words other f line = false

abbrev pub comes_too_often : Facts → Line → Bool
comes_too_often f line = is_taken (place_of (key line) f) || has_too_many_words (key line) f line

-- a wrong number of fields, or an empty word
abbrev pub has_fields : Key → (count : ℕ) → Bool
has_fields Frames n = n == 1
has_fields Sectors n = n == 1
has_fields Quantum n = n == 1
has_fields Budget n = n == 1
has_fields ProgramKey n = n == 1
has_fields Code n = nat_le 1 n
has_fields Data n = nat_le 1 n
has_fields Start n = n == 2
has_fields Panic n = n == 2
has_fields End n = n == 0
has_fields other n = true

abbrev pub lacks_fields : Line → Bool
lacks_fields line = not (has_fields (key line) (length (fields line))) || list_any is_empty (tokens line)

-- a field that is no numeral, or out of its range
abbrev pub has_no_number : Key → Line → Bool
has_no_number Frames line = not (is_number 16 384 (token_at 1 line))
has_no_number Sectors line = not (is_number 1 2048 (token_at 1 line))
has_no_number Quantum line = not (is_number 1 10000 (token_at 1 line))
has_no_number Budget line = not (is_number 0 2000000 (token_at 1 line))
has_no_number Start line = not (is_number 0 1 (token_at 2 line))
has_no_number Panic line = not (is_number 1 4294967295 (token_at 1 line)) || not (is_number 0 4294967295 (token_at 2 line))
has_no_number other line = false

abbrev pub has_no_name : Key → Line → Bool
has_no_name ProgramKey line = not (is_name (token_at 1 line))
has_no_name Start line = not (is_name (token_at 1 line))
has_no_name other line = false

abbrev pub has_no_word : Key → Line → Bool
has_no_word Code line = not (list_all is_word (fields line))
has_no_word Data line = not (list_all is_word (fields line))
has_no_word other line = false

-- the program's name again
abbrev pub comes_twice : Key → Facts → Line → Bool
comes_twice ProgramKey f line = list_any (has_name (token_at 1 line)) (programs_of f)
comes_twice other f line = false

abbrev pub names_no_program : Key → Facts → Line → Bool
names_no_program Start f line = not (list_any (has_name (token_at 1 line)) (programs_of f))
names_no_program other f line = false

-- the trap of the panic line before, 0 where there is none
abbrev pub trap_of_found : Option PanicLine → ℕ
trap_of_found (Some panic) = panic.trap
trap_of_found None = 0

abbrev pub last_trap : List PanicLine → ℕ
last_trap panics = trap_of_found (slice_get panics (length panics - 1))

-- the trap of a panic is not above that of the panic line before
abbrev pub does_not_rise : Key → Facts → Line → Bool
does_not_rise Panic f line = nat_le (number_at 1 line) (last_trap f.panics)
does_not_rise other f line = false

-- the pages that a start of the program with this name needs
abbrev pub named_pages : (name : List ℕ) → List Program → ℕ
named_pages name programs = pages_of_found (find (has_name name) programs)

-- the pages of all starts, with this one, are more than the frames
abbrev pub exceeds_frames : Key → Facts → Line → Bool
exceeds_frames Start f line = nat_lt f.shape.user_frames (start_pages (programs_of f) f.starts + named_pages (token_at 1 line) (programs_of f))
exceeds_frames other f line = false

-- whether a reason holds for a line; what gives `escape` and `sectors` is on lines of forms that cannot be
-- read yet, and `end` and `too large` are no reasons of a line
abbrev pub holds : Facts → Line → Why → Bool
holds f line FirstLine = is_no_first_line f line
holds f line NotBuilt = is_unbuilt (key line)
holds f line Word = is_barred (place_of (key line) f)
holds f line TooMany = comes_too_often f line
holds f line Fields = lacks_fields line
holds f line Number = has_no_number (key line) line
holds f line Name = has_no_name (key line) line
holds f line Hex = has_no_word (key line) line
holds f line Twice = comes_twice (key line) f line
holds f line NoSuchProgram = names_no_program (key line) f line
holds f line Order = does_not_rise (key line) f line
holds f line TooManyFrames = exceeds_frames (key line) f line
holds f line other = false

-- the order in which the reasons of one line are tried
abbrev pub reasons : List Why
reasons = FirstLine ∷ NotBuilt ∷ Word ∷ TooMany ∷ Fields ∷ Number ∷ Name ∷ Hex ∷ Escape ∷ Twice ∷ NoSuchProgram ∷ Order
    ∷ TooManyFrames ∷ TooManySectors ∷ []

-- the first reason that holds
unfoldable pub first_reason : Facts → Line → Option Why
first_reason f line = find (holds f line) reasons

-- the reason against a line behind the lines before it, which stand nearest first
abbrev pub reason_at : (behind : List Line) → Line → Option Why
reason_at behind line = first_reason (facts behind) line
