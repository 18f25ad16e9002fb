-- The flags of an entry of a page table.
use Rattle.std.specs.Prelude.{ℕ}
use Rattle.sv32_tables.specs.declared.entry.Flag.{Flag}
use Rattle.sv32_tables.specs.declared.entry.Flag.TheVariants.{Valid, Read, Write, Execute, User, Accessed, Dirty}

-- where a flag stands in an entry
abbrev pub place_of : Flag → ℕ
place_of Valid = 0
place_of Read = 1
place_of Write = 2
place_of Execute = 3
place_of User = 4
place_of Accessed = 6
place_of Dirty = 7
