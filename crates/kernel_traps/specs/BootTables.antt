-- What holds of the tables and the owners of a program that has started in a slot.
use Rattle.std.specs.Prelude.{◌≡◌, ◌≢◌, ℕ, ◌+◌, ◌*◌, ◌<◌, false, nat_lt, if◌then◌else◌, Some, slice_index}
use Rattle.ow_base.specs.Entries.{leaf_word, pointer_word}
use Rattle.ow_base.specs.Sv32.{WordMap}
use Rattle.ow_base.specs.World.{page_count}
use Rattle.ow_base.specs.declared.machine.Rights.{Rights}
use Rattle.ow_base.specs.declared.machine.Rights.TheVariants.{Code, Values}
use Rattle.ow_base.specs.declared.worlds.Program.{Program}
use Rattle.record_layouts.specs.Unix.State.{is_within}
use Rattle.record_layouts.specs.Held.{Records}
use Rattle.record_layouts.specs.Pages.{claim_of}

-- the rights of the page with this number among those of code and data
abbrev pub low_rights : (code_pages number : ℕ) → Rights
low_rights code_pages number = if nat_lt number code_pages then Code else Values

-- The pages of code and data, so many in all, are 16 and those behind it; then come the four of the stack. Their frames
-- lie one behind the other, and all other words of the tables are 0.
pub record HasTables (r : Records) (slot frame code_pages count : ℕ) : Type 0 where
  pub to_low : r.table_words slot 0 0 ≡ pointer_word (17 + 3 * slot + 1)
  pub to_high : r.table_words slot 0 511 ≡ pointer_word (17 + 3 * slot + 2)
  pub low : (number : ℕ) → number < count → r.table_words slot 1 (16 + number) ≡ leaf_word (129 + (frame + number)) (low_rights code_pages number)
  pub high : (number : ℕ) → number < 4 → r.table_words slot 2 (1020 + number) ≡ leaf_word (129 + (frame + count + number)) Values
  pub low_owner : (number : ℕ) → number < count → r.owners (frame + number) ≡ claim_of slot (16 + number)
  pub high_owner : (number : ℕ) → number < 4 → r.owners (frame + count + number) ≡ claim_of slot (0x7fffc + number)
  pub root_clean : (word : ℕ) → word ≢ 0 → word ≢ 511 → r.table_words slot 0 word ≡ 0
  pub low_clean : (word : ℕ) → is_within 16 count word ≡ false → r.table_words slot 1 word ≡ 0
  pub high_clean : (word : ℕ) → is_within 1020 4 word ≡ false → r.table_words slot 2 word ≡ 0

-- The words of a program lie in its frames: code, data, and the four frames of the stack, which are 0.
pub record HasWords (words : WordMap) (frame : ℕ) (program : Program) : Type 0 where
  pub code : (number word : ℕ) → number < page_count program.code → word < 1024
      → words (129 + (frame + number)) word ≡ Some (slice_index program.code (1024 * number + word))
  pub values : (number word : ℕ) → number < page_count program.values → word < 1024
      → words (129 + (frame + page_count program.code + number)) word ≡ Some (slice_index program.values (1024 * number + word))
  pub stack : (number word : ℕ) → number < 4 → word < 1024
      → words (129 + (frame + (page_count program.code + page_count program.values) + number)) word ≡ Some 0
