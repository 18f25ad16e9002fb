-- Runs of three writers of Hi with panics at the first stores of traps, worked out by the definitions, and their reports.
use Rattle.std.specs.Prelude.{◌≡◌, ℕ, zero, suc, ◌+◌, List, [], ◌∷◌, ◌++◌, map, codes, Option, Some, None, option_map}
use Rattle.ow_base.specs.declared.worlds.World.{World}
use Rattle.ow_base.specs.declared.worlds.Ending.{Ending}
use Rattle.ow_base.specs.declared.worlds.PanicLine.{PanicLine}
use Rattle.ow_base.specs.declared.worlds.PanicRecord.{PanicRecord}
use Rattle.record_layouts.specs.Unix.State.{Unix, start_of}
use Rattle.record_layouts.specs.Unix.Turn.{closed, ending_of, turn}
use Rattle.record_layouts.specs.Unix.Traps.{or_zero, pid_of}
use Rattle.record_layouts.specs.Unix.Wounds.{no_wounds}
use Rattle.record_layouts.specs.Unix.Abort.{fates}
use Rattle.record_layouts.specs.Unix.Panics.{Due, Images, due_at}
use Rattle.record_layouts.specs.Unix.PanicReport.{report_with}
use Rattle.record_layouts.specs.declared.fates.Fate.{Fate}
use Rattle.panic_rows.specs.Rows.{entry_of, hi_program, left_undone, panic_at, revived, start_on, world_of}

-- a panic of a run that is worked out: its entry in the history, and the state that it left, which nothing wounded
pub record WorkedPanic : Type 0 where
  pub entry : PanicRecord
  pub left : Unix

-- a run that is worked out: its panics, how it ends, and the state in the end
pub record WorkedRun : Type 0 where
  pub panics : List WorkedPanic
  pub ending : Ending
  pub last : Unix

-- a panic at the listed store of the trap that is due, of which nothing is done
abbrev pub entry_due : Unix → Due → PanicRecord
entry_due u due = record (entry_of (u.traps + 1) due.line.store due.line.store (or_zero (pid_of due.trap))) { lines = record { items = due.line.damages } }

abbrev pub panic_worked : Unix → Due → WorkedPanic
panic_worked u due = record { entry = entry_due u due; left = left_undone due.trap u }

abbrev pub with_panic : WorkedPanic → WorkedRun → WorkedRun
with_panic panic run = record { panics = panic ∷ run.panics; ending = run.ending; last = run.last }

-- A run from a state on: the panic that is due and the run of what is revived, or the end, or a turn and the run behind it.
abbrev pub worked_by : World → (rest : Unix → Option WorkedRun) → Unix → Option Due → Option Ending → Option WorkedRun
worked_by world rest u (Some due) ending = option_map (with_panic (panic_worked u due)) (rest (revived (left_undone due.trap u)))
worked_by world rest u None (Some ending) = Some (record { panics = []; ending = ending; last = closed u })
worked_by world rest u None None = rest (turn world.load.shape u)

-- the run from a state, where it comes to its end by so many turns and panics
unfoldable pub worked_run : World → (fuel : ℕ) → Unix → Option WorkedRun
worked_run world zero u = None
worked_run world (suc n) u = worked_by world (worked_run world n) u (due_at world u) (ending_of world.load.shape u)

-- its history, and the fates that are told at each panic
abbrev pub entry_in : WorkedPanic → PanicRecord
entry_in panic = panic.entry

abbrev pub fates_in : WorkedPanic → List (ℕ × Fate)
fates_in panic = fates panic.left (no_wounds panic.left)

abbrev pub history_of : WorkedRun → List PanicRecord
history_of run = map entry_in run.panics

abbrev pub told_of : WorkedRun → List (List (ℕ × Fate))
told_of run = map fates_in run.panics

-- the words of memory stand for the state that the panic left, and for no wounds
abbrev pub IsImaged : Images → WorkedPanic → Type 0
IsImaged images panic = (images.state panic.entry panic.left.steps panic.left.traps ≡ panic.left) × (images.wounds panic.entry ≡ no_wounds panic.left)

-- three of hi, on terminals 0, 1 and 0, with a panic at the first store of each of these traps
abbrev pub first_store_of : (trap : ℕ) → PanicLine
first_store_of trap = panic_at trap 0

unfoldable pub three_hi_at : (traps : List ℕ) → World
three_hi_at traps = world_of 100 1000 (hi_program ∷ []) (start_on 0 0 ∷ start_on 0 1 ∷ start_on 0 0 ∷ []) (map first_store_of traps)

abbrev pub report_of_run : World → WorkedRun → List ℕ
report_of_run world run = report_with world.panics (history_of run) (told_of run) run.ending run.last

abbrev pub worked_report : World → Option (List ℕ)
worked_report world = option_map (report_of_run world) (worked_run world 64 (start_of world.load))

unfoldable pub report_at : (traps : List ℕ) → Option (List ℕ)
report_at traps = worked_report (three_hi_at traps)

-- the reports as literals: the counts, the lines of the panics, and what is written on the terminals
abbrev pub reported : (steps traps : List ℕ) → (panics : List ℕ) → (written : List ℕ) → Option (List ℕ)
reported steps traps panics written = Some (codes "otherworld 1\nending done\nsteps " ++ (steps ++ (codes "\ntraps " ++ (traps ++ (codes "\n" ++ (panics
    ++ (codes "exit 1 code 0\nexit 2 code 0\nexit 3 code 0\n" ++ (written ++ codes "end\n"))))))))

-- what is on terminals 0 and 1: of each of the three writes or of fewer
abbrev pub all_written : List ℕ
all_written = codes "tty 0 6\nout Hi\\nHi\\n\nscreen 0 2 0\nrow 0 Hi\nrow 1 Hi\ntty 1 3\nout Hi\\n\nscreen 1 1 0\nrow 0 Hi\n"

abbrev pub one_on_each : List ℕ
one_on_each = codes "tty 0 3\nout Hi\\n\nscreen 0 1 0\nrow 0 Hi\ntty 1 3\nout Hi\\n\nscreen 1 1 0\nrow 0 Hi\n"

abbrev pub two_on_0 : List ℕ
two_on_0 = codes "tty 0 6\nout Hi\\nHi\\n\nscreen 0 2 0\nrow 0 Hi\nrow 1 Hi\ntty 1 0\nscreen 1 0 0\n"

abbrev pub one_on_1 : List ℕ
one_on_1 = codes "tty 0 0\nscreen 0 0 0\ntty 1 3\nout Hi\\n\nscreen 1 1 0\nrow 0 Hi\n"

abbrev pub one_on_0 : List ℕ
one_on_0 = codes "tty 0 3\nout Hi\\n\nscreen 0 1 0\nrow 0 Hi\ntty 1 0\nscreen 1 0 0\n"

-- the lines of the first panic of a run, by its trap
abbrev pub first_broken : List ℕ
first_broken = codes "panic 1 0 store pid 1\naborted 1\ngoes 2\ngoes 3\n"

abbrev pub second_broken : List ℕ
second_broken = codes "panic 2 0 store pid 2\ngoes 1\naborted 2\ngoes 3\n"

abbrev pub third_broken : List ℕ
third_broken = codes "panic 3 0 store pid 3\ngoes 1\ngoes 2\naborted 3\n"

abbrev pub fourth_broken : List ℕ
fourth_broken = codes "panic 4 0 store pid 1\nstands 1\ngoes 2\ngoes 3\n"

abbrev pub fifth_broken : List ℕ
fifth_broken = codes "panic 5 0 store pid 2\nstands 2\ngoes 3\n"

abbrev pub sixth_broken : List ℕ
sixth_broken = codes "panic 6 0 store pid 3\nstands 3\n"

abbrev pub seventh_broken : List ℕ
seventh_broken = codes "panic 7 0 store pid 0\n"

-- each trap of the run without panics, and one more
abbrev pub one_trap : List (List ℕ)
one_trap = (1 ∷ []) ∷ (2 ∷ []) ∷ (3 ∷ []) ∷ (4 ∷ []) ∷ (5 ∷ []) ∷ (6 ∷ []) ∷ (7 ∷ []) ∷ (8 ∷ []) ∷ []

-- the reports with a panic at one of them
unfoldable pub reports_of_one : List (Option (List ℕ))
reports_of_one = reported (codes "24") (codes "7") first_broken one_on_each
    ∷ reported (codes "24") (codes "7") second_broken two_on_0
    ∷ reported (codes "24") (codes "7") third_broken one_on_each
    ∷ reported (codes "25") (codes "8") fourth_broken all_written
    ∷ reported (codes "25") (codes "8") fifth_broken all_written
    ∷ reported (codes "25") (codes "8") sixth_broken all_written
    ∷ reported (codes "24") (codes "8") seventh_broken all_written
    ∷ reported (codes "24") (codes "7") (codes "unused 8 0\n") all_written
    ∷ []

-- trap 1 and each later one
abbrev pub with_first : List (List ℕ)
with_first = (1 ∷ 2 ∷ []) ∷ (1 ∷ 3 ∷ []) ∷ (1 ∷ 4 ∷ []) ∷ (1 ∷ 5 ∷ []) ∷ (1 ∷ 6 ∷ []) ∷ (1 ∷ 7 ∷ []) ∷ (1 ∷ 8 ∷ []) ∷ []

-- and their reports
unfoldable pub reports_with_first : List (Option (List ℕ))
reports_with_first = reported (codes "24") (codes "7") (first_broken ++ second_broken) one_on_0
    ∷ reported (codes "24") (codes "7") (first_broken ++ third_broken) one_on_1
    ∷ reported (codes "25") (codes "8") (first_broken ++ fourth_broken) one_on_each
    ∷ reported (codes "25") (codes "8") (first_broken ++ fifth_broken) one_on_each
    ∷ reported (codes "25") (codes "8") (first_broken ++ sixth_broken) one_on_each
    ∷ reported (codes "24") (codes "8") (first_broken ++ seventh_broken) one_on_each
    ∷ reported (codes "24") (codes "7") (first_broken ++ codes "unused 8 0\n") one_on_each
    ∷ []

-- trap 2 and each later one
abbrev pub with_second : List (List ℕ)
with_second = (2 ∷ 3 ∷ []) ∷ (2 ∷ 4 ∷ []) ∷ (2 ∷ 5 ∷ []) ∷ (2 ∷ 6 ∷ []) ∷ (2 ∷ 7 ∷ []) ∷ (2 ∷ 8 ∷ []) ∷ []

-- and their reports
unfoldable pub reports_with_second : List (Option (List ℕ))
reports_with_second = reported (codes "24") (codes "7") (second_broken ++ third_broken) one_on_0
    ∷ reported (codes "25") (codes "8") (second_broken ++ fourth_broken) two_on_0
    ∷ reported (codes "25") (codes "8") (second_broken ++ fifth_broken) two_on_0
    ∷ reported (codes "25") (codes "8") (second_broken ++ sixth_broken) two_on_0
    ∷ reported (codes "24") (codes "8") (second_broken ++ seventh_broken) two_on_0
    ∷ reported (codes "24") (codes "7") (second_broken ++ codes "unused 8 0\n") two_on_0
    ∷ []

-- trap 3 and each later one
abbrev pub with_third : List (List ℕ)
with_third = (3 ∷ 4 ∷ []) ∷ (3 ∷ 5 ∷ []) ∷ (3 ∷ 6 ∷ []) ∷ (3 ∷ 7 ∷ []) ∷ (3 ∷ 8 ∷ []) ∷ []

-- and their reports
unfoldable pub reports_with_third : List (Option (List ℕ))
reports_with_third = reported (codes "25") (codes "8") (third_broken ++ fourth_broken) one_on_each
    ∷ reported (codes "25") (codes "8") (third_broken ++ fifth_broken) one_on_each
    ∷ reported (codes "25") (codes "8") (third_broken ++ sixth_broken) one_on_each
    ∷ reported (codes "24") (codes "8") (third_broken ++ seventh_broken) one_on_each
    ∷ reported (codes "24") (codes "7") (third_broken ++ codes "unused 8 0\n") one_on_each
    ∷ []

-- trap 4 and each later one
abbrev pub with_fourth : List (List ℕ)
with_fourth = (4 ∷ 5 ∷ []) ∷ (4 ∷ 6 ∷ []) ∷ (4 ∷ 7 ∷ []) ∷ (4 ∷ 8 ∷ []) ∷ []

-- and their reports
unfoldable pub reports_with_fourth : List (Option (List ℕ))
reports_with_fourth = reported (codes "26") (codes "9") (fourth_broken ++ codes "panic 5 0 store pid 2\ngoes 1\nstands 2\ngoes 3\n") all_written
    ∷ reported (codes "26") (codes "9") (fourth_broken ++ codes "panic 6 0 store pid 3\ngoes 1\nstands 3\n") all_written
    ∷ reported (codes "26") (codes "9") (fourth_broken ++ codes "panic 7 0 store pid 1\nstands 1\n") all_written
    ∷ reported (codes "25") (codes "9") (fourth_broken ++ codes "panic 8 0 store pid 0\n") all_written
    ∷ []

-- trap 5 and each later one
abbrev pub with_fifth : List (List ℕ)
with_fifth = (5 ∷ 6 ∷ []) ∷ (5 ∷ 7 ∷ []) ∷ (5 ∷ 8 ∷ []) ∷ []

-- and their reports
unfoldable pub reports_with_fifth : List (Option (List ℕ))
reports_with_fifth = reported (codes "26") (codes "9") (fifth_broken ++ codes "panic 6 0 store pid 3\ngoes 2\nstands 3\n") all_written
    ∷ reported (codes "26") (codes "9") (fifth_broken ++ codes "panic 7 0 store pid 2\nstands 2\n") all_written
    ∷ reported (codes "25") (codes "9") (fifth_broken ++ codes "panic 8 0 store pid 0\n") all_written
    ∷ []

-- trap 6 and each later one
abbrev pub with_sixth : List (List ℕ)
with_sixth = (6 ∷ 7 ∷ []) ∷ (6 ∷ 8 ∷ []) ∷ []

-- and their reports
unfoldable pub reports_with_sixth : List (Option (List ℕ))
reports_with_sixth = reported (codes "26") (codes "9") (sixth_broken ++ codes "panic 7 0 store pid 3\nstands 3\n") all_written
    ∷ reported (codes "25") (codes "9") (sixth_broken ++ codes "panic 8 0 store pid 0\n") all_written
    ∷ []

-- trap 7 and each later one
abbrev pub with_seventh : List (List ℕ)
with_seventh = (7 ∷ 8 ∷ []) ∷ []

-- and their reports
unfoldable pub reports_with_seventh : List (Option (List ℕ))
reports_with_seventh = reported (codes "24") (codes "9") (seventh_broken ++ codes "panic 8 0 store pid 0\n") all_written
    ∷ []
