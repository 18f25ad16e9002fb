-- The entries that a kernel puts into its page tables.
use Rattle.std.specs.Prelude.{ℕ, ◌+◌, ◌*◌}
use Rattle.ow_base.specs.declared.machine.Rights.{Rights}
use Rattle.ow_base.specs.declared.machine.Rights.TheVariants.{Code, Values}

-- the flags of a leaf: V 1, R 2, U 16 and A 64, for code X 8, for values W 4 and D 128
abbrev pub leaf_flags : Rights → ℕ
leaf_flags Code = 1 + 2 + 8 + 16 + 64
leaf_flags Values = 1 + 2 + 4 + 16 + 64 + 128

-- the entry that gives a frame as a page
abbrev pub leaf_word : (frame : ℕ) → Rights → ℕ
leaf_word frame rights = frame * 1024 + leaf_flags rights

-- the entry that names a frame as a table of the last level: V alone
abbrev pub pointer_word : (frame : ℕ) → ℕ
pointer_word frame = frame * 1024 + 1
