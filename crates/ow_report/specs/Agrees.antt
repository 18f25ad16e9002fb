-- A plant that a run left, and the state of the Unix that it stands for.
use Rattle.std.specs.Prelude.{◌≡◌, ℕ, ◌-◌, ◌<◌, List, ◌++◌, codes, Option}
use Rattle.ow_base.specs.Lines.{line}
use Rattle.ow_plant.specs.Images.{image_of, tapes_of}
use Rattle.ow_plant.specs.State.{PlantState, tty_of}
use Rattle.record_layouts.specs.Decode.{Context, next_by, status_by}
use Rattle.record_layouts.specs.Images.{records_of_image, unix_of_image}
use Rattle.record_layouts.specs.Unix.Report.{process_lines, shown_on, terminal_text}
use Rattle.record_layouts.specs.Unix.State.{Unix}

-- the plant stands for the state, by Decode of its live area and its counts; and its terminals have the tapes of the state
-- and show them
pub record PlantAgrees (s : PlantState) (w : Unix) : Type 0 where
  pub decodes : (context : Context) × (w ≡ unix_of_image (image_of s) context s.steps s.traps)
  pub tapes : (tty : ℕ) → tty < 2 → (w.terminals tty).tape ≡ tapes_of s tty
  pub shown : (tty : ℕ) → tty < 2 → (tty_of s tty).display ≡ shown_on (w.terminals tty)

-- how each pid ended, by the exit records of the live area
abbrev pub exits_of : PlantState → (pid : ℕ) → Option ℕ
exits_of s pid = status_by ((records_of_image (image_of s)).exits pid)

-- the pid that the next process would get, by its head
abbrev pub next_pid_of : PlantState → ℕ
next_pid_of s = next_by (records_of_image (image_of s)).head

-- the lines of the terminals, and the last line of the report
unfoldable pub terminals_text : PlantState → List ℕ
terminals_text s = terminal_text 0 s.tty0.tape s.tty0.display ++ (terminal_text 1 s.tty1.tape s.tty1.display ++ line (codes "end"))

-- what a report tells of a plant behind its panics
unfoldable pub plant_text : PlantState → List ℕ
plant_text s = process_lines (exits_of s) 1 (next_pid_of s - 1) ++ terminals_text s
