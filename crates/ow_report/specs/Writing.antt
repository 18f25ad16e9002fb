-- How the report's lines are put together.
use Rattle.std.specs.Prelude.{ℕ, ◌+◌, ◌/◌, ◌<◌, List, [], ◌∷◌, ◌++◌, length, flat_map, codes, decimal, Option, Some, None}
use Rattle.ow_base.specs.Lines.{line, spaced, escaped}
use Rattle.std.specs.Borrow.{Bor}
use Rattle.ow_base.specs.declared.worlds.PanicLine.{PanicLine}
use Rattle.ow_base.specs.declared.worlds.PanicRecord.{PanicRecord}
use Rattle.record_layouts.specs.Unix.PanicReport.{entry_for, unused_of}
use Rattle.ow_report.specs.declared.lines.Token.{Token}
use Rattle.ow_report.specs.declared.lines.Token.TheVariants.{Key, Number, Escaped}
use Rattle.ow_report.specs.declared.processes.Exit.{Exit}
use Rattle.ow_report.specs.declared.processes.Exit.TheVariants.{Code, Signal, Fault, Lost}

-- the text of a token
abbrev pub token_text : Token → List ℕ
token_text (Key text) = text.now
token_text (Number n) = decimal n
token_text (Escaped bytes) = escaped bytes.now

-- a token behind another one
abbrev pub next_token : Token → List ℕ
next_token token = 32 ∷ token_text token

-- a line of a key word and the tokens behind it
unfoldable pub line_text : (key : List ℕ) → List Token → List ℕ
line_text key tokens = key ++ (flat_map next_token tokens ++ 10 ∷ [])

-- a line of a key word and two numbers
abbrev pub numbers_line : (key : List ℕ) → (first second : ℕ) → List ℕ
numbers_line key a b = line (spaced (spaced key (decimal a)) (decimal b))

-- how a process ended, in a word and a number
abbrev pub exit_key : Exit → List ℕ
exit_key (Code n) = codes "code"
exit_key (Signal n) = codes "signal"
exit_key (Fault n) = codes "fault"
exit_key (Lost n) = codes "lost"

abbrev pub exit_number : Exit → ℕ
exit_number (Code n) = n
exit_number (Signal n) = n
exit_number (Fault n) = n
exit_number (Lost n) = n

-- the status word that an exit has
abbrev pub status_word : Exit → ℕ
status_word (Code n) = n
status_word (Signal n) = 0x100 + n
status_word (Fault n) = 0x200 + n
status_word (Lost n) = 0x300 + n

-- the ranges that tell the exits apart
abbrev pub IsExit : Exit → Type 0
IsExit (Code n) = n < 0x100
IsExit (Signal n) = n < 0x100
IsExit (Fault n) = n < 0x100
IsExit (Lost n) = Unit {0}

-- how many lines of 64 bytes a tape takes
abbrev pub tape_line_count : (tape : List ℕ) → ℕ
tape_line_count tape = (length tape + 63) / 64

-- the line of a panic that is listed and did not come
abbrev pub unused_panic : PanicLine → List ℕ
unused_panic panic = numbers_line (codes "unused") panic.trap panic.store

-- the entry behind a reference, if there is one
abbrev pub entry_of : Option (Bor PanicRecord) → Option PanicRecord
entry_of (Some entry) = Some entry.now
entry_of None = None

-- what did not come of a panic that is listed, by the history of the run
abbrev pub unused_by : List PanicRecord → PanicLine → List ℕ
unused_by history panic = unused_of panic (entry_for history panic.trap)
