-- Where the entries that a kernel makes lead.
use Rattle.std.proofs.Common.{◌≡◌, ℕ, ◌^◌, ◌<◌, Some, Err, if◌then◌else◌, refl, arith}
use Rattle.ow_base.specs.Words.{bits}
use Rattle.ow_base.specs.Sv32.{WordMap, is_valid, is_leaf, permits, place_in, by_leaf, by_last, by_first}
use Rattle.ow_base.specs.declared.machine.Access.{Access}
use Rattle.ow_base.specs.declared.machine.Access.TheVariants.{Fetch, Load, Store}
use Rattle.ow_base.specs.declared.machine.Rights.{Rights}
use Rattle.ow_base.specs.declared.machine.Rights.TheVariants.{Code, Values}
use Rattle.ow_base.specs.declared.machine.PageCause.TheVariants as cause
use Rattle.sv32_tables.specs.Entries.{granted, leaf_word, pointer_word}

pub leaf_read_back : (words : WordMap) (access : Access) (address frame : ℕ) (rights : Rights) → frame < 2 ^ 22 →
    by_last words access address (Some (leaf_word frame rights))
    ≡ (if granted access rights then place_in words access address frame (words frame (bits address 2 10)) else Err cause.Page)
unfolding is_valid is_leaf permits by_leaf
leaf_read_back words Fetch address frame Code small = grind arith
leaf_read_back words Fetch address frame Values small = grind arith
leaf_read_back words Load address frame Code small = grind arith
leaf_read_back words Load address frame Values small = grind arith
leaf_read_back words Store address frame Code small = grind arith
leaf_read_back words Store address frame Values small = grind arith

pub pointer_read_back : (words : WordMap) (access : Access) (address frame : ℕ) → frame < 2 ^ 22 →
    by_first words access address (Some (pointer_word frame)) ≡ by_last words access address (words frame (bits address 12 10))
unfolding is_valid is_leaf
pointer_read_back words access address frame small = grind arith

pub none_mapped : (words : WordMap) (access : Access) (address : ℕ) →
    (by_last words access address (Some 0) ≡ Err cause.Page) × (by_first words access address (Some 0) ≡ Err cause.Page)
unfolding is_valid is_leaf
none_mapped words access address = (refl, refl)
