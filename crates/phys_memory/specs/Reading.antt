-- The words of a half that is lent, and those that are read beside it.
use Rattle.std.specs.Prelude.{ℕ, List, Option, Some, None}
use Rattle.ow_base.specs.Sv32.{WordMap}
pub use Rattle.phys_memory.specs.Halves.{words_from}
use Rattle.phys_memory.specs.declared.lent.DeadWords.{DeadWords}
use Rattle.phys_memory.specs.declared.lent.OwnWords.{OwnWords}

abbrev pub or_else : Option ℕ → Option ℕ → Option ℕ
or_else (Some word) other = Some word
or_else None other = other

-- the words of the boot frame and of the half that is read
unfoldable pub words_read : DeadWords → WordMap
words_read d frame word = or_else (words_from 0 d.boot.now frame word) (words_from d.first d.half.now frame word)

-- the words of the half that is written
abbrev pub words_lent : OwnWords → WordMap
words_lent own = words_from own.first own.words.now

-- the words of the boot frame alone
abbrev pub boot_words : DeadWords → List ℕ
boot_words d = d.boot.now
