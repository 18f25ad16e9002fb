-- Where a process can write, and where it has an access at all.
use Rattle.std.specs.Prelude.{ℕ, zero, suc, ◌+◌, Bool, true, ◌&&◌, Option, is_some}
use Rattle.ow_base.specs.Pages.{Pages, is_readable, rights_at}
use Rattle.ow_base.specs.declared.machine.Rights.{Rights}
pub use Rattle.record_layouts.specs.Unix.Spaces.{are_values}
use Rattle.address_space.specs.declared.access.Access.{Access}
use Rattle.address_space.specs.declared.access.Access.TheVariants.{Read, Write}

-- each of so many bytes from an address on lies in a page of values
unfoldable pub is_writable : Pages → (address count : ℕ) → Bool
is_writable pages address zero = true
is_writable pages address (suc n) = are_values (rights_at pages address) && is_writable pages (address + 1) n

-- rights allow an access
abbrev pub allows : Access → Option Rights → Bool
allows Read rights = is_some rights
allows Write rights = are_values rights

-- so many bytes from an address on can be accessed
abbrev pub is_open_to : Access → Pages → (address count : ℕ) → Bool
is_open_to Read pages address count = is_readable pages address count
is_open_to Write pages address count = is_writable pages address count
