-- The record of what became of a pid.
use Rattle.std.specs.Prelude.{◌≡◌, ℕ, ◌≤◌, ◌⊎◌, Bool, nat_le, ◌==◌, ◌&&◌, ◌||◌, List, length, slice_index, Option}
use Rattle.ow_base.specs.Seals.{AreWords, IsSealed}
use Rattle.record_layouts.specs.Spelling.{IsStatus, is_sealed_record, is_status, only_where}
use Rattle.record_layouts.specs.declared.exit.ExitRec.{ExitRec}

-- no process has had the pid
pub record IsUnusedExit (exit : ExitRec) : Type 0 where
  pub state : exit.state ≡ 0
  pub value : exit.value ≡ 0

-- a process in this slot has it
pub record IsLiveExit (exit : ExitRec) : Type 0 where
  pub state : exit.state ≡ 1
  pub slot : exit.value ≤ 15

-- a process that has ended with this status word had it
pub record IsEndedExit (exit : ExitRec) : Type 0 where
  pub state : exit.state ≡ 2
  pub status : IsStatus exit.value

-- the fields are in their ranges, and 0 where the state does not use them
abbrev pub FitsExit : ExitRec → Type 0
FitsExit exit = IsUnusedExit exit ⊎ IsLiveExit exit ⊎ IsEndedExit exit

-- the same as tests: the pid is that of a live process, or of one that has ended
abbrev pub tells_live : ExitRec → Bool
tells_live exit = exit.state == 1

abbrev pub tells_ended : ExitRec → Bool
tells_ended exit = exit.state == 2

-- the words are the record of this value
pub record IsExit (words : List ℕ) (exit : ExitRec) : Type 0 where
  pub long : length words ≡ 4
  pub all_words : AreWords words
  pub kind : slice_index words 0 ≡ 0x45584954
  pub state : slice_index words 1 ≡ exit.state
  pub value : slice_index words 2 ≡ exit.value
  pub fits : FitsExit exit
  pub seal : IsSealed words

-- the fields that words would have as a record, whether they fit, and the value whose record the words are
abbrev pub exit_fields : (words : List ℕ) → ExitRec
exit_fields words = record { state = slice_index words 1; value = slice_index words 2 }

unfoldable pub fits_exit : ExitRec → Bool
fits_exit exit =
    (exit.state == 0 && exit.value == 0) || (exit.state == 1 && nat_le exit.value 15) || (exit.state == 2 && is_status exit.value)

unfoldable pub exit_in : (words : List ℕ) → Option ExitRec
exit_in words = only_where (is_sealed_record 4 0x45584954 words && fits_exit (exit_fields words)) (exit_fields words)
