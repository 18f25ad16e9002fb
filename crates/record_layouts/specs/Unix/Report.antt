-- Report: the text of a run.
use Rattle.std.specs.Prelude.{ℕ, zero, suc, ◌+◌, ◌-◌, ◌/◌, nat_lt, ◌==◌, if◌then◌else◌, List, [], ◌∷◌, ◌++◌, length, take, drop, codes, decimal, Option, Some, None}
use Rattle.ow_base.specs.Lines.{line, spaced, number_line, escaped}
use Rattle.ow_base.specs.Screen.{Screen, screen_of}
use Rattle.record_layouts.specs.Unix.State.{Unix, Terminal}
use Rattle.ow_base.specs.declared.worlds.Ending.{Ending}
use Rattle.ow_base.specs.declared.worlds.Ending.TheVariants.{Done, Budget, Restarted}

abbrev pub ending_word : Ending → List ℕ
ending_word Done = codes "done"
ending_word Budget = codes "budget"
ending_word Restarted = codes "restart"

-- the four lines that a report begins with
unfoldable pub head_text : Ending → (steps traps : ℕ) → List ℕ
head_text ending steps traps = line (codes "otherworld 1") ++ (line (spaced (codes "ending") (ending_word ending))
    ++ (number_line (codes "steps") steps ++ number_line (codes "traps") traps))

-- what a status word says: a code, a signal from 0x100 on, a fault from 0x200 on, or a loss from 0x300 on
unfoldable pub status_words : ℕ → List ℕ
status_words s =
    if nat_lt s 0x100 then spaced (codes "code") (decimal s) else
    if nat_lt s 0x200 then spaced (codes "signal") (decimal (s - 0x100)) else
    if nat_lt s 0x300 then spaced (codes "fault") (decimal (s - 0x200)) else
    spaced (codes "lost") (decimal (s - 0x300))

-- the line of a process: how it ended, or that it is live
abbrev pub process_line : (pid : ℕ) → Option ℕ → List ℕ
process_line pid (Some status) = line (spaced (spaced (codes "exit") (decimal pid)) (status_words status))
process_line pid None = line (spaced (codes "live") (decimal pid))

-- the lines of so many processes, from a pid on
unfoldable pub process_lines : (exits : ℕ → Option ℕ) → (pid count : ℕ) → List ℕ
process_lines exits pid zero = []
process_lines exits pid (suc n) = process_line pid (exits pid) ++ process_lines exits (pid + 1) n

-- lines of 64 bytes of a tape, the last one shorter
unfoldable pub out_lines : (count : ℕ) → (tape : List ℕ) → List ℕ
out_lines zero tape = []
out_lines (suc n) tape = line (spaced (codes "out") (escaped (take 64 tape))) ++ out_lines n (drop 64 tape)

abbrev pub tape_text : (tty : ℕ) → (tape : List ℕ) → List ℕ
tape_text tty tape = line (spaced (spaced (codes "tty") (decimal tty)) (decimal (length tape)))
    ++ out_lines ((length tape + 63) / 64) tape

-- a space goes before something alone
abbrev pub kept_before : (byte : ℕ) → (rest : List ℕ) → List ℕ
kept_before b [] = if b == 32 then [] else b ∷ []
kept_before b (c ∷ rest) = b ∷ (c ∷ rest)

-- a row without its trailing spaces
unfoldable pub trimmed : List ℕ → List ℕ
trimmed [] = []
trimmed (b ∷ row) = kept_before b (trimmed row)

-- the line of a row that is not blank
abbrev pub row_line_of : (number : ℕ) → (text : List ℕ) → List ℕ
row_line_of r [] = []
row_line_of r (b ∷ text) = line (spaced (spaced (codes "row") (decimal r)) (escaped (b ∷ text)))

-- the lines of the rows, from a number on
unfoldable pub row_lines : (number : ℕ) → (rows : List (List ℕ)) → List ℕ
row_lines r [] = []
row_lines r (row ∷ rows) = row_line_of r (trimmed row) ++ row_lines (r + 1) rows

unfoldable pub screen_text : (tty : ℕ) → Screen → List ℕ
screen_text tty s = line (spaced (spaced (spaced (codes "screen") (decimal tty)) (decimal s.row)) (decimal s.col))
    ++ row_lines 0 s.rows

-- a terminal: its tape, and the screen of the tape from its base
unfoldable pub terminal_text : (tty : ℕ) → (tape : List ℕ) → Screen → List ℕ
terminal_text tty tape s = tape_text tty tape ++ screen_text tty s

abbrev pub shown_on : Terminal → Screen
shown_on t = screen_of (drop t.base t.tape)

-- the lines of the processes and terminals that a run left, and the last line
abbrev pub state_text : Unix → List ℕ
state_text w = process_lines w.exits 1 (w.next_pid - 1)
    ++ (terminal_text 0 (w.terminals 0).tape (shown_on (w.terminals 0))
    ++ (terminal_text 1 (w.terminals 1).tape (shown_on (w.terminals 1)) ++ line (codes "end")))

-- Report, of an ending and the state that the run left
unfoldable pub report_of : Ending → Unix → List ℕ
report_of ending w = head_text ending w.steps w.traps ++ state_text w
