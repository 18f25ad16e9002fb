-- The panics so far, and the room for those to come.
use Rattle.std.specs.Prelude.{◌≡◌, ℕ, ◌+◌, List, [], ◌∷◌, ◌++◌}
use Rattle.ow_base.specs.declared.worlds.PanicRecord.{PanicRecord}
use Rattle.ow_plant.specs.declared.past.Told.{Told}

-- the panics, how many more there is room for, and how many words each of them may keep
pub record PastPanics : Type 0 where
  pub entries : List PanicRecord
  pub room : ℕ
  pub words : ℕ

abbrev pub no_past : (room words : ℕ) → PastPanics
no_past room words = record { entries = []; room = room; words = words }

-- the record of a panic tells this and has these words; nothing is on the disk, and nothing is damaged
pub record IsRecordOf (told : Told) (all_words : List ℕ) (entry : PanicRecord) : Type 0 where
  pub trap : entry.trap ≡ told.trap
  pub store : entry.store ≡ told.store
  pub listed : entry.listed ≡ told.listed
  pub at_leave : entry.at_leave ≡ told.at_leave
  pub pid : entry.pid ≡ told.pid
  pub area : entry.area ≡ told.area
  pub image : entry.image ≡ all_words
  pub no_disk : entry.disk ≡ []
  pub tapes : entry.tapes ≡ told.tapes
  pub no_lines : entry.lines.items ≡ []
  pub no_damage : entry.damage.items ≡ []
  pub no_broken : entry.broken.items ≡ []

-- a panic is added behind the others
pub record TakesEntry (told : Told) (all_words : List ℕ) (old new : PastPanics) : Type 0 where
  pub entry : PanicRecord
  pub is : IsRecordOf told all_words entry
  pub entries : new.entries ≡ old.entries ++ entry ∷ []
  pub room : old.room ≡ new.room + 1
  pub words : new.words ≡ old.words
