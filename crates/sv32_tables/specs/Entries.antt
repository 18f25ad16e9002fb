-- What the entries that a kernel puts into its page tables give to a program.
use Rattle.std.specs.Prelude.{Bool, true, false}
use Rattle.ow_base.specs.declared.machine.Access.{Access}
use Rattle.ow_base.specs.declared.machine.Access.TheVariants.{Fetch, Load, Store}
use Rattle.ow_base.specs.declared.machine.Rights.{Rights}
use Rattle.ow_base.specs.declared.machine.Rights.TheVariants.{Code, Values}
pub use Rattle.ow_base.specs.Entries.{leaf_flags, leaf_word, pointer_word}

-- the accesses that rights give
abbrev pub granted : Access → Rights → Bool
granted Fetch Code = true
granted Fetch Values = false
granted Load rights = true
granted Store Code = false
granted Store Values = true
